-- Marks and queue while the voids on open sides are sought, and after the search: a void is marked 2 exactly where it is outside.
use mathlib.Core.Path.{◌≡◌, refl, sym, ◌∙◌, ap}
use mathlib.Core.Bool.{Bool, true, false, cond, ◌&&◌}
use mathlib.Core.Logic.{◌⊎◌, inl, inr, ⊎_elim}
use mathlib.Core.List.{List}
use Prim.Native.Nat.{ℕ, ◌+◌, ◌≤◌, ◌<◌}
use native.Mathlib.Omega.{arith}
use native.Mathlib.Decide.{ℕ_discrete, dec_lt}
use lib.ListN.{length, get_or, set, get_or-eq_default}
use lib.Seq.{get_or-set_same, get_or-set_other}
use lib.IntN.{ℤ}
use lib.Signed.{◌≤ℤ◌}
use lib.Dec.{eqb}
use borrow.Author.Tests.{eq-eqb, eqb-true}
use Rattle.grid.specs.declared.Grid.{Grid}
use Rattle.grid.specs.Below.{count_below}
use Rattle.grid.specs.Sheet.{size, void, at, is_data, neighbour}
use Rattle.grid.specs.Joined.{joined}
use Rattle.grid.specs.Outlet.{is_open, is_void, on_open_side, outside, is_outside}
use Rattle.grid_laws.proofs.Tests.{test, true_false, not_true_false, and_true, and_left, and_right, same_test, cond_true}
use Rattle.grid_laws.proofs.Tests.{cond_false}
use Rattle.grid_laws.proofs.Below.{at_table, any_of, some_of_any, count_find}
use Rattle.grid_laws.proofs.Neighbours.{at_eight}
use Rattle.grid_laws.proofs.Joined.{same_joined}
use Rattle.grid_laws.proofs.Outlets.{void_of, void_on, void_no_data}
use Rattle.cells.specs.Keys.{key_of}
use Rattle.cells.specs.Marks.{Marked}
use Rattle.cells.proofs.Keys.{data_by_key, zero_no_data}
use Rattle.join_laws.specs.Ways.{stop}
use Rattle.join_laws.specs.Search.{part_of, Parts, in_set, is_joined, joined_marks, Touched}
use Rattle.join_laws.proofs.Joined.{way_joined}
use Rattle.join_laws.proofs.Search.{at_part, length_part, taken, take_marks, take_queue, queue_room, of_set, of_joined, one_set, value_set}
use Rattle.join_laws.proofs.Search.{value_joined}
use Rattle.outside.specs.Seeds.{SeedsOn}

-- ---- the first mark of a cell, by its key
pub void_mark_is : (e : List ℤ) (c k v : ℕ) → k ≡ key_of (at e c) → void ≤ℤ at e c → (k ≡ 0 → v ≡ 1) → ((k ≡ 0 → ⊥) → v ≡ 0) →
    v ≡ cond (is_data e c) 0 1
void_mark_is e c k v q h one none = go (ℕ_discrete k 0)
  where
    go : Dec (k ≡ 0) → v ≡ cond (is_data e c) 0 1
    go (yes z) = one z ∙ sym (cond_false 0 1 (zero_no_data e c k q h z))
    go (no f) = none f ∙ sym (cond_true 0 1 (data_by_key e c k q f))

-- ---- no void is queued yet
module _ (g : Grid) (e : List ℤ) (base half : ℕ) (w : List ℕ)
    (voids : (c : ℕ) → c < size g → get_or w (base + c) 0 ≡ cond (is_data e c) 0 1) where
  no_two : (c : ℕ) → c < size g → get_or w (base + c) 0 ≡ 2 → ⊥
  no_two c h z =
      ⊎_elim (λ d. let q = voids c h ∙ cond_true 0 1 d in omega arith) (λ v. let q = voids c h ∙ cond_false 0 1 v in omega arith)
      (test (is_data e c))

  none_joined : count_below (size g) (is_joined 2 (part_of (size g) base w)) ≡ 0
  none_joined = go (dec_lt 0 (count_below (size g) (is_joined 2 (part_of (size g) base w))))
    where
      go : Dec (0 < count_below (size g) (is_joined 2 (part_of (size g) base w))) →
          count_below (size g) (is_joined 2 (part_of (size g) base w)) ≡ 0
      go (yes h) =
          let i = count_find (size g) (is_joined 2 (part_of (size g) base w)) 0 h in
          absurd (no_two i.0 i.1 (sym (at_part (size g) base w i.0 i.1)
          ∙ of_joined g 2 (omega arith) (part_of (size g) base w) i.0 i.2))
      go (no f) = omega arith

  pub seeds_none : SeedsOn g base half w w 0
  seeds_none =
      record {
        searching =
            record {
              queued = λ i h. let z : ⊥ = omega arith in absurd z;
              placed = λ c h m. absurd (no_two c h (sym (at_part (size g) base w c h) ∙ m));
              spread = λ i p h. let z : ⊥ = omega arith in absurd z;
              count = sym none_joined;
              order = omega arith;
            };
        on_open = λ c h m. absurd (no_two c h m);
        marks = λ c h. inl refl;
        front = λ i h. refl;
      }

-- ---- steps, one after the other
module _ (g : Grid) (base half : ℕ) where
  pub seeds_here : (w₀ w : List ℕ) (len : ℕ) → SeedsOn g base half w₀ w len → SeedsOn g base half w w len
  seeds_here w₀ w len S =
      record { searching = S.searching; on_open = S.on_open; marks = λ c h. inl refl; front = λ i h. refl }

  -- what has mark 1 had it before
  pub ones_back : (w₀ w : List ℕ) (len : ℕ) → SeedsOn g base half w₀ w len → (c : ℕ) → c < size g → get_or w (base + c) 0 ≡ 1 →
      get_or w₀ (base + c) 0 ≡ 1
  ones_back w₀ w len S c h q = ⊎_elim (λ same. sym same ∙ q) (λ m. m.0) (S.marks c h)

  pub seeds_then : (w₀ w₁ w₂ : List ℕ) (a b : ℕ) → SeedsOn g base half w₀ w₁ a → SeedsOn g base half w₁ w₂ b → SeedsOn g base half w₀ w₂ b
  seeds_then w₀ w₁ w₂ a b S T =
      record {
        searching = T.searching;
        on_open = T.on_open;
        marks = λ c h. both c (S.marks c h) (T.marks c h);
        front = λ i h. T.front i h ∙ S.front i h;
      }
    where
      both : (c : ℕ) → (get_or w₁ (base + c) 0 ≡ get_or w₀ (base + c) 0) ⊎ ((get_or w₀ (base + c) 0 ≡ 1) × (get_or w₁ (base + c) 0 ≡ 2))
          → (get_or w₂ (base + c) 0 ≡ get_or w₁ (base + c) 0) ⊎ ((get_or w₁ (base + c) 0 ≡ 1) × (get_or w₂ (base + c) 0 ≡ 2))
          → (get_or w₂ (base + c) 0 ≡ get_or w₀ (base + c) 0) ⊎ ((get_or w₀ (base + c) 0 ≡ 1) × (get_or w₂ (base + c) 0 ≡ 2))
      both c (inl p) (inl q) = inl (q ∙ p)
      both c (inl p) (inr q) = inr (sym p ∙ q.0, q.1)
      both c (inr p) (inl q) = inr (p.0, q ∙ p.1)
      both c (inr p) (inr q) = inr (p.0, q.1)

-- ---- one cell of an open side
pub side_open : (g : Grid) (p c : ℕ) → p < 8 → is_open g p ≡ true → neighbour g c p ≡ size g → on_open_side g c ≡ true
unfolding on_open_side
side_open g p c h o q =
    any_of 8 (λ r. eqb (neighbour g c r) (size g) && is_open g r) p h (and_true (eq-eqb (neighbour g c p) (size g) q) o)

module _ (g : Grid) (base half : ℕ) (w : List ℕ) (len : ℕ) (P : Parts (size g) base half (length w)) (low : half ≤ base)
    (S : SeedsOn g base half w w len) (c : ℕ) (on : c < size g) (open-side : on_open_side g c ≡ true) where
  module _ (one : get_or w (base + c) 0 ≡ 1) where
    abbrev after : List ℕ
    after = set (set w (base + c) 2) (half + len) c

    less : len < size g
    less = queue_room g base half 2 (omega arith) w P 0 len S.searching c on one

    at_c : get_or after (base + c) 0 ≡ 2
    at_c =
        get_or-set_other (set w (base + c) 2) (half + len) (base + c) c 0 (P.apart c len on less)
        ∙ get_or-set_same w (base + c) 2 0 (let h = P.marks_in in omega arith)

    at_other : (x : ℕ) → x < size g → (x ≡ c → ⊥) → get_or after (base + x) 0 ≡ get_or w (base + x) 0
    at_other x h f =
        get_or-set_other (set w (base + c) 2) (half + len) (base + x) c 0 (P.apart x len h less)
        ∙ get_or-set_other w (base + c) (base + x) 2 0 (λ q. f (omega arith))

    queued : SeedsOn g base half w after (len + 1)
    queued =
        record {
          searching =
              rw (take_marks g base half 2 (omega arith) w P c len on less) (rw (take_queue g base half 2 (omega arith) w P c len on less)
              (taken g 2 (omega arith) (part_of (size g) base w) (length_part (size g) base w) c on (at_part (size g) base w c on ∙ one)
              (part_of (size g) half w) (length_part (size g) half w) 0 len S.searching));
          on_open = λ x h m. on_sides x h m (ℕ_discrete x c);
          marks = λ x h. change x h (ℕ_discrete x c);
          front = λ i h. get_or-set_other (set w (base + c) 2) (half + len) i c 0 (λ q. let z : ⊥ = omega arith in absurd z)
              ∙ get_or-set_other w (base + c) i 2 0 (λ q. let z : ⊥ = omega arith in absurd z);
        }
      where
        on_sides : (x : ℕ) → x < size g → get_or after (base + x) 0 ≡ 2 → Dec (x ≡ c) → on_open_side g x ≡ true
        on_sides x h m (yes q) = ap (on_open_side g) q ∙ open-side
        on_sides x h m (no f) = S.on_open x h (sym (at_other x h f) ∙ m)

        change : (x : ℕ) → x < size g → Dec (x ≡ c) → (get_or after (base + x) 0 ≡ get_or w (base + x) 0)
            ⊎ ((get_or w (base + x) 0 ≡ 1) × (get_or after (base + x) 0 ≡ 2))
        change x h (yes q) = inr (rw q (one, at_c))
        change x h (no f) = inl (at_other x h f)

  pub seed_step : (w' : List ℕ) (r : ℕ) → Touched (size g) base half 2 w w' len c r →
      SeedsOn g base half w w' r × (get_or w' (base + c) 0 ≡ 1 → ⊥)
  seed_step w' r (inl (e, q, f)) = rw e (rw q (S, f on))
  seed_step w' r (inr (e, q, _, one)) = rw e (rw q (queued one, λ z. let t = at_c one in omega arith))

-- ---- the four sides, one after the other: west, east, north, south
module _ (g : Grid) (base half : ℕ) (w₀ w₁ w₂ w₃ w₄ : List ℕ) (a b d f : ℕ) (W : SeedsOn g base half w₀ w₁ a)
    (E : SeedsOn g base half w₁ w₂ b) (N : SeedsOn g base half w₂ w₃ d) (S : SeedsOn g base half w₃ w₄ f) where
  -- no cell from which the step at p crosses its side has mark 1
  abbrev pub Clear : ℕ → List ℕ → Type 0
  Clear p w = is_open g p ≡ true → (c : ℕ) → c < size g → neighbour g c p ≡ size g → get_or w (base + c) 0 ≡ 1 → ⊥

  pub four_sides : Clear 5 w₁ → Clear 1 w₂ → Clear 7 w₃ → Clear 3 w₄ →
      SeedsOn g base half w₀ w₄ f × ((c : ℕ) → c < size g → on_open_side g c ≡ true → get_or w₄ (base + c) 0 ≡ 1 → ⊥)
  unfolding on_open_side is_open
  four_sides west east north south = (
    seeds_then g base half w₀ w₃ w₄ d f
        (seeds_then g base half w₀ w₂ w₃ b d (seeds_then g base half w₀ w₁ w₂ a b W E) N) S,
    λ c h o one.
        let some = some_of_any 8 (λ p. eqb (neighbour g c p) (size g) && is_open g p) o in
        let p = some.0 in
        let off = eqb-true (neighbour g c p) (size g) (and_left (eqb (neighbour g c p) (size g)) (is_open g p) some.2) in
        none c h one p some.1 (and_right (eqb (neighbour g c p) (size g)) (is_open g p) some.2) off,
  )
    where
      none : (c : ℕ) → c < size g → get_or w₄ (base + c) 0 ≡ 1 → (p : ℕ) → p < 8 → is_open g p ≡ true → neighbour g c p ≡ size g → ⊥
      none c h one =
          let at-north = ones_back g base half w₃ w₄ f S c h one in
          let at-east = ones_back g base half w₂ w₃ d N c h at-north in
          let at-west = ones_back g base half w₁ w₂ b E c h at-east in
          at_eight (λ p. is_open g p ≡ true → neighbour g c p ≡ size g → ⊥) (λ o q. true_false o refl) (λ o q. east o c h q at-east)
          (λ o q. true_false o refl) (λ o q. south o c h q one) (λ o q. true_false o refl) (λ o q. west o c h q at-west)
          (λ o q. true_false o refl) (λ o q. north o c h q at-north)

-- ---- after the search
module _ (g : Grid) (e : List ℤ) (base half : ℕ) (w₁ w₂ w₃ : List ℕ) (len : ℕ)
    (voids : (c : ℕ) → c < size g → get_or w₁ (base + c) 0 ≡ cond (is_data e c) 0 1) (S : SeedsOn g base half w₁ w₂ len)
    (none : (c : ℕ) → c < size g → on_open_side g c ≡ true → get_or w₂ (base + c) 0 ≡ 1 → ⊥)
    (found : part_of (size g) base w₃ ≡ joined_marks g 2 (part_of (size g) base w₂)) where
  abbrev l : List ℕ
  l = part_of (size g) base w₂

  mark_at_lem : (c : ℕ) → c < size g → get_or l c 0 ≡ get_or w₂ (base + c) 0
  mark_at_lem c h = at_part (size g) base w₂ c h

  data_mark : (c : ℕ) → c < size g → is_data e c ≡ true → get_or l c 0 ≡ 0
  data_mark c h d =
      let z = voids c h ∙ cond_true 0 1 d in
      mark_at_lem c h ∙ ⊎_elim (λ same. same ∙ z) (λ m. let o = m.0 in let y : ⊥ = omega arith in absurd y) (S.marks c h)

  void_mark : (c : ℕ) → c < size g → is_data e c ≡ false → (get_or l c 0 ≡ 1) ⊎ (get_or l c 0 ≡ 2)
  void_mark c h v =
      let z = voids c h ∙ cond_false 0 1 v in
      ⊎_elim (λ same. inl (mark_at_lem c h ∙ same ∙ z)) (λ m. inr (mark_at_lem c h ∙ m.1)) (S.marks c h)

  two_open : (c : ℕ) → c < size g → get_or l c 0 ≡ 2 → on_open_side g c ≡ true
  two_open c h m = S.on_open c h (sym (mark_at_lem c h) ∙ m)

  open_two : (c : ℕ) → c < size g → is_data e c ≡ false → on_open_side g c ≡ true → get_or l c 0 ≡ 2
  open_two c h v o = ⊎_elim (λ m. absurd (none c h o (sym (mark_at_lem c h) ∙ m))) (λ m. m) (void_mark c h v)

  -- the set of the search is the voids
  in_void : (c : ℕ) → in_set 2 l c ≡ true → is_void g e c ≡ true
  in_void c t = go (dec_lt c (size g))
    where
      marked : (get_or l c 0 ≡ 0) → ⊥
      marked z = ⊎_elim (λ q. let y : ⊥ = omega arith in y) (λ q. let y : ⊥ = omega arith in y) (of_set g 2 (omega arith) l c t)

      go : Dec (c < size g) → is_void g e c ≡ true
      go (yes h) = void_of g e c h (not_true_false (is_data e c) (λ d. marked (data_mark c h d)))
      go (no f) = absurd (marked (get_or-eq_default l 0 (let q = length_part (size g) base w₂ in omega arith)))

  void_in : (c : ℕ) → is_void g e c ≡ true → in_set 2 l c ≡ true
  void_in c v =
      ⊎_elim (one_set g 2 (omega arith) l c) (value_set g 2 (omega arith) l c) (void_mark c (void_on g e c v) (void_no_data g e c v))

  same_set : (c : ℕ) → in_set 2 l c ≡ is_void g e c
  same_set c = same_test (in_set 2 l c) (is_void g e c) (in_void c) (void_in c)

  same_first : (c : ℕ) → c < size g → (in_set 2 l c && is_joined 2 l c) ≡ (is_void g e c && on_open_side g c)
  same_first c h =
      same_test (in_set 2 l c && is_joined 2 l c) (is_void g e c && on_open_side g c)
      (λ t. and_true (in_void c (and_left (in_set 2 l c) (is_joined 2 l c) t))
      (two_open c h (of_joined g 2 (omega arith) l c (and_right (in_set 2 l c) (is_joined 2 l c) t))))
      (λ t. let v = and_left (is_void g e c) (on_open_side g c) t in
      and_true (void_in c v)
      (value_joined g 2 (omega arith) l c (open_two c h (void_no_data g e c v) (and_right (is_void g e c) (on_open_side g c) t))))

  same_outside : joined g (in_set 2 l) (is_joined 2 l) ≡ outside g e
  unfolding outside
  same_outside = same_joined g (in_set 2 l) (is_void g e) (is_joined 2 l) (on_open_side g) same_set same_first

  -- a void on an open side is outside itself
  open_outside : (c : ℕ) → is_void g e c ≡ true → on_open_side g c ≡ true → is_outside g e c ≡ true
  unfolding is_outside outside
  open_outside c v o = way_joined g (is_void g e) (on_open_side g) (void_on g e) (stop (v, o))

  pub marked_by : Marked g e base w₃
  unfolding joined_marks is_outside
  marked_by c v = there ∙ settle (test (is_outside g e c))
    where
      h : c < size g
      h = void_on g e c v

      there : get_or w₃ (base + c) 0 ≡ cond (is_outside g e c) 2 (get_or l c 0)
      there =
          sym (at_part (size g) base w₃ c h) ∙ ap (λ (x : List ℕ). get_or x c 0) found
          ∙ at_table (size g) (λ x. cond (get_or (joined g (in_set 2 l) (is_joined 2 l)) x false) 2 (get_or l x 0)) c 0 h
          ∙ ap (λ (j : List Bool). cond (get_or j c false) 2 (get_or l c 0)) same_outside

      settle : (is_outside g e c ≡ true) ⊎ (is_outside g e c ≡ false) → cond (is_outside g e c) 2 (get_or l c 0) ≡ cond (is_outside g e c) 2 1
      settle (inl t) = cond_true 2 (get_or l c 0) t ∙ sym (cond_true 2 1 t)
      settle (inr f) =
          cond_false 2 (get_or l c 0) f
          ∙ ⊎_elim (λ m. m) (λ m. true_false (open_outside c v (two_open c h m)) f) (void_mark c h (void_no_data g e c v))
          ∙ sym (cond_false 2 1 f)
