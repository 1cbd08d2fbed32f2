-- What is read of the packed work buffer, and what reaching a cell makes of it.
use mathlib.Core.Path.{◌≡◌, sym, ◌∙◌, ap, subst}
use mathlib.Core.List.{List}
use Prim.Native.Nat.{ℕ, ◌+◌, ◌-◌, ◌*◌, ◌/◌, ◌%◌, ◌≤◌, ◌<◌}
use native.Mathlib.Omega.{arith}
use native.Mathlib.Decide.{ℕ_discrete, dec_lt}
use lib.ListN.{length, get_or, set, length-set}
use lib.Seq.{get_or-set_same, get_or-set_other, ext_get_or}
use borrow.Author.Tests.{lt-ltb, le-ltb}
use Rattle.key_sort.specs.Order.{Ahead, Sorted}
use Rattle.flood_laws.specs.Packed.{front_of, back_of}
use Rattle.grid_laws.proofs.Below.{at_table, length_table}

module _ (n half : ℕ) (w : List ℕ) where
  pub front_key : (c : ℕ) → c < n → get_or (front_of n half w) c 0 ≡ get_or w c 0 % 65536
  unfolding front_of
  front_key c h = at_table (n + n + n) _ c 0 (omega arith) ∙ rw (lt-ltb c n h)

  pub front_order : (j : ℕ) → j < n → get_or (front_of n half w) (n + j) 0 ≡ get_or w (n + j) 0
  unfolding front_of
  front_order j h =
      at_table (n + n + n) _ (n + j) 0 (omega arith) ∙ rw (le-ltb (n + j) n (omega arith), lt-ltb (n + j) (n + n) (omega arith))

  pub front_mark : (c : ℕ) → c < n → get_or (front_of n half w) (n + n + c) 0 ≡ get_or w (half + n + c) 0
  unfolding front_of
  front_mark c h =
      at_table (n + n + n) _ (n + n + c) 0 (omega arith)
      ∙ rw (le-ltb (n + n + c) n (omega arith), le-ltb (n + n + c) (n + n) (omega arith)) (ap (λ (x : ℕ). get_or w x 0) (omega arith))

  front_length : length (front_of n half w) ≡ n + n + n
  unfolding front_of
  front_length = length_table (n + n + n) _

  pub back_queue : (i : ℕ) → i < n → get_or (back_of n half w) i 0 ≡ get_or w (half + i) 0
  unfolding back_of
  back_queue i h = at_table (n + n) _ i 0 (omega arith) ∙ rw (lt-ltb i n h)

  pub back_level : (c : ℕ) → c < n → get_or (back_of n half w) (n + c) 0 ≡ get_or w c 0 / 65536
  unfolding back_of
  back_level c h =
      at_table (n + n) _ (n + c) 0 (omega arith) ∙ rw (le-ltb (n + c) n (omega arith)) (ap (λ (x : ℕ). get_or w x 0 / 65536) (omega arith))

  pub back_length : length (back_of n half w) ≡ n + n
  unfolding back_of
  back_length = length_table (n + n) _

-- what holds below k, and of the n from k on, holds below k + n
parts : (k n : ℕ) (P : ℕ → Type 0) → ((i : ℕ) → i < k → P i) → ((i : ℕ) → i < n → P (k + i)) → (i : ℕ) → i < k + n → P i
parts k n P p q i h = go (dec_lt i k)
  where
    go : Dec (i < k) → P i
    go (yes l) = p i l
    go (no l) = let e : i ≡ k + (i - k) = omega arith in subst P (sym e) (q (i - k) (omega arith))

module _ (n : ℕ) (a b : List ℕ) where
  abbrev Agree : ℕ → Type 0
  Agree i = get_or a i 0 ≡ get_or b i 0

  -- two lists of 2 n that agree in both halves
  both : length a ≡ n + n → length b ≡ n + n → ((i : ℕ) → i < n → Agree i) → ((i : ℕ) → i < n → Agree (n + i)) → a ≡ b
  both la lb p q = ext_get_or 0 a b (la ∙ sym lb) (λ i h. parts n n Agree p q i (omega arith))

  -- two lists of 3 n that agree in all thirds
  thirds : length a ≡ n + n + n → length b ≡ n + n + n → ((i : ℕ) → i < n → Agree i) → ((i : ℕ) → i < n → Agree (n + i)) →
      ((i : ℕ) → i < n → Agree (n + n + i)) → a ≡ b
  thirds la lb p q r = ext_get_or 0 a b (la ∙ sym lb) (λ i h. parts (n + n) n Agree (parts n n Agree p q) r i (omega arith))

module _ (n half v len m : ℕ) (w : List ℕ) (hn : n + n ≤ half) (hl : half + n ≤ length w) (hm : m < n) (hq : len < n)
    (low : get_or w m 0 < 65536) where
  -- the buffer when m is reached
  w' : List ℕ
  w' = set (set w m (get_or w m 0 + v * 65536)) (half + len) m

  other : (x : ℕ) → (x ≡ m → ⊥) → (x ≡ half + len → ⊥) → get_or w' x 0 ≡ get_or w x 0
  unfolding w'
  other x p q = get_or-set_other (set w m (get_or w m 0 + v * 65536)) (half + len) x m 0 q ∙ get_or-set_other w m x (get_or w m 0 + v * 65536) 0 p

  word : get_or w' m 0 ≡ get_or w m 0 + v * 65536
  unfolding w'
  word =
      get_or-set_other (set w m (get_or w m 0 + v * 65536)) (half + len) m m 0 (λ e. omega arith)
      ∙ get_or-set_same w m (get_or w m 0 + v * 65536) 0 (omega arith)

  last : get_or w' (half + len) 0 ≡ m
  unfolding w'
  last = get_or-set_same (set w m (get_or w m 0 + v * 65536)) (half + len) m 0 (rw length-set (omega arith))

  pub front_same : front_of n half (set (set w m (get_or w m 0 + v * 65536)) (half + len) m) ≡ front_of n half w
  unfolding w'
  front_same =
      thirds n (front_of n half w') (front_of n half w) (front_length n half w') (front_length n half w)
      (λ i h. front_key n half w' i h ∙ key i h (ℕ_discrete i m) ∙ sym (front_key n half w i h))
      (λ i h. front_order n half w' i h ∙ other (n + i) (λ e. omega arith) (λ e. omega arith) ∙ sym (front_order n half w i h))
      (λ i h. front_mark n half w' i h ∙ other (half + n + i) (λ e. omega arith) (λ e. omega arith) ∙ sym (front_mark n half w i h))
    where
      key : (i : ℕ) → i < n → Dec (i ≡ m) → get_or w' i 0 % 65536 ≡ get_or w i 0 % 65536
      key i h (yes e) = rw e (let y = word in omega arith)
      key i h (no f) = ap (λ (x : ℕ). x % 65536) (other i f (λ e. omega arith))

  pub back_set : back_of n half (set (set w m (get_or w m 0 + v * 65536)) (half + len) m) ≡ set (set (back_of n half w) (n + m) v) len m
  unfolding w'
  back_set =
      both n (back_of n half w') (set (set (back_of n half w) (n + m) v) len m) (back_length n half w')
      (length-set (set (back_of n half w) (n + m) v) len m ∙ length-set (back_of n half w) (n + m) v ∙ back_length n half w)
      (λ i h. back_queue n half w' i h ∙ queue i h (ℕ_discrete i len))
      (λ i h. back_level n half w' i h ∙ level i h (ℕ_discrete i m))
    where
      queue : (i : ℕ) → i < n → Dec (i ≡ len) → get_or w' (half + i) 0 ≡ get_or (set (set (back_of n half w) (n + m) v) len m) i 0
      queue i h (yes e) =
          rw e
          (last ∙ sym (get_or-set_same (set (back_of n half w) (n + m) v) len m 0 (rw length-set (rw (back_length n half w) (omega arith)))))
      queue i h (no f) =
          other (half + i) (λ e. omega arith) (λ e. f (omega arith))
          ∙ sym (back_queue n half w i h)
          ∙ sym (get_or-set_other (set (back_of n half w) (n + m) v) len i m 0 f
          ∙ get_or-set_other (back_of n half w) (n + m) i v 0 (λ e. omega arith))

      level : (i : ℕ) → i < n → Dec (i ≡ m) → get_or w' i 0 / 65536 ≡ get_or (set (set (back_of n half w) (n + m) v) len m) (n + i) 0
      level i h (yes e) =
          rw e (let y = word in let z : get_or w' m 0 / 65536 ≡ v = omega arith in
          z
          ∙ sym (get_or-set_other (set (back_of n half w) (n + m) v) len (n + m) m 0 (λ q. omega arith)
          ∙ get_or-set_same (back_of n half w) (n + m) v 0 (rw (back_length n half w) (omega arith))))
      level i h (no f) =
          ap (λ (x : ℕ). x / 65536) (other i f (λ e. omega arith))
          ∙ sym (back_level n half w i h)
          ∙ sym (get_or-set_other (set (back_of n half w) (n + m) v) len (n + i) m 0 (λ e. omega arith)
          ∙ get_or-set_other (back_of n half w) (n + m) (n + i) v 0 (λ e. f (omega arith)))

-- keys alone: nothing is reached, and the order of the buffer is that of the front
module _ (n half : ℕ) (w : List ℕ) (small : (x : ℕ) → x < n → get_or w x 0 < 65536) where
  pub packed_none : (c : ℕ) → c < n → get_or (back_of n half w) (n + c) 0 ≡ 0
  packed_none c h = back_level n half w c h ∙ (let y = small c h in omega arith)

  pub packed_key : (c : ℕ) → c < n → get_or (front_of n half w) c 0 ≡ get_or w c 0
  packed_key c h = front_key n half w c h ∙ (let y = small c h in omega arith)

  pub packed_sorted : Sorted n w → Sorted n (front_of n half w)
  packed_sorted S =
      record {
        on = λ j l. rw (front_order n half w j l) (S.on j l);
        all = λ c l. go c (S.all c l);
        rising =
            λ i j k l. let li : i < n = omega arith in
            rw (front_order n half w i li, front_order n half w j l)
            (rw (packed_key (get_or w (n + i) 0) (S.on i li), packed_key (get_or w (n + j) 0) (S.on j l)) (S.rising i j k l));
      }
    where
      go : (c : ℕ) → Ahead n w 0 c → Ahead n (front_of n half w) 0 c
      go c (j, k, l, e) = (j, k, l, front_order n half w j l ∙ e)
