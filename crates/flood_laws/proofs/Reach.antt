-- What reaching a cell makes of the flood's state, with no geometry.
use mathlib.Core.Path.{◌≡◌, sym, ◌∙◌, ap, subst}
use mathlib.Core.Logic.{◌⊎◌, inl, inr, ⊎_elim}
use Prim.Native.Nat.{ℕ, ◌+◌, ◌≤◌, ◌<◌}
use native.Mathlib.Omega.{arith}
use borrow.Author.Count.{below_more}
use native.Mathlib.Decide.{ℕ_discrete, dec_lt}
use Rattle.flood_laws.specs.Flood.{Flood}
use Rattle.flood_laws.proofs.Marks.{more_marks}

module _ {size : ℕ} {Cell Out : ℕ → Type 0} {Next : ℕ → ℕ → Type 0} {Later : ℕ → Type 0} {key queue level : ℕ → ℕ} {v head len : ℕ}
    (on : (c : ℕ) → Cell c → c < size)
    (out_cell : (c : ℕ) → Out c → Cell c)
    (next_from : (c m : ℕ) → Next c m → Cell c)
    (back : (c m : ℕ) → Next c m → Next m c)
    (low : (m : ℕ) → Later m → v ≤ key m)
    (F : Flood size Cell Out Next Later key queue level v head len) where
  -- one reaches c
  module _ (c : ℕ) (t : Cell c) (new : level c ≡ 0) (kv : key c ≤ v) (pv : 0 < v) (why : Out c ⊎ ((j : ℕ) × (j < len) × Next c (queue j)))
      (queue' level' : ℕ → ℕ) (level-c : level' c ≡ v) (level-other : (y : ℕ) → (y ≡ c → ⊥) → level' y ≡ level y) (qc : queue' len ≡ c)
      (q-other : (i : ℕ) → i < len → queue' i ≡ queue i) where
    -- a reached cell keeps its level
    kept : (x : ℕ) → 0 < level x → level' x ≡ level x
    kept x h = level-other x (λ e. let z : level x ≡ 0 = rw e new in omega arith)

    was : (x : ℕ) → 0 < level' x → ((x ≡ c) × (level' x ≡ v)) ⊎ ((0 < level x) × (level' x ≡ level x))
    was x h = go (ℕ_discrete x c)
      where
        go : Dec (x ≡ c) → ((x ≡ c) × (level' x ≡ v)) ⊎ ((0 < level x) × (level' x ≡ level x))
        go (yes e) = inl (e, rw e level-c)
        go (no f) = let e = level-other x f in inr (omega arith, e)

    old : (i : ℕ) → i < len → (level' (queue' i) ≡ level (queue i)) × (0 < level (queue i)) × Cell (queue i)
    old i h = let q = F.queued i h in (ap level' (q-other i h) ∙ kept (queue i) q.1, q.1, q.0)

    -- a reached neighbour of c
    beside_c : (m : ℕ) → Next c m → 0 < level m → (v ≤ key c) ⊎ (level m ≡ v)
    beside_c m b h = go (F.placed m (on m (next_from m c (back c m b))) h)
      where
        go : (i : ℕ) × (i < len) × (queue i ≡ m) → (v ≤ key c) ⊎ (level m ≡ v)
        go (i, l, e) = go' (dec_lt i head)
          where
            go' : Dec (i < head) → (v ≤ key c) ⊎ (level m ≡ v)
            go' (yes k) = ⊎_elim (λ r. let z : ⊥ = omega arith in absurd z) (λ a. inl (low c a)) (F.spread i c k (rw e (back c m b)))
            go' (no f) = inr (sym (ap level e) ∙ F.front i l (omega arith))

    out_level : Out c → v ≡ key c
    out_level o = let h = low c (F.outs_later c o new) in omega arith

    pub reached : Flood size Cell Out Next Later key queue' level' v head (len + 1)
    reached =
        record {
          queued = below_more _ len (λ i l. let q = old i l in (rw (q-other i l) q.2, omega arith)) (rw qc (t, rw level-c pv));
          placed =
              λ x l h. ⊎_elim (λ w. (len, omega arith, qc ∙ sym w.0))
              (λ w. let p = F.placed x l w.0 in (p.0, let y = p.1 in omega arith, q-other p.0 p.1 ∙ p.2)) (was x h);
          under =
              λ x l h. ⊎_elim (λ w. let a : key x ≤ v = rw w.0 kv in let e = w.1 in (omega arith, omega arith))
              (λ w. rw w.1 (F.under x l w.0)) (was x h);
          front = below_more _ len (λ i l k. (old i l).0 ∙ F.front i l k) (λ k. rw qc level-c);
          parents = below_more _ len parent_old parent_new;
          outs = λ x o h. ⊎_elim (λ w. w.1 ∙ rw w.0 (out_level (subst Out w.0 o))) (λ w. w.1 ∙ F.outs x o w.0) (was x h);
          outs_later = λ x o h. F.outs_later x o (unreached x h (ℕ_discrete x c));
          spread =
              λ i m h b. let l : i < len = (let y = F.order in omega arith) in
              ⊎_elim (λ r. inl (rw (kept m r) r)) inr (F.spread i m h (rw (q-other i l) at b));
          flat = λ x m b h k. flat' x m b (was x h) (was m k);
          count = (let y = F.count in let z = more_marks size level level' c (on c t) new (rw level-c pv) level-other in omega arith);
          order = (let y = F.order in omega arith);
        }
      where
        unreached : (x : ℕ) → level' x ≡ 0 → Dec (x ≡ c) → level x ≡ 0
        unreached x h (yes e) = rw e new
        unreached x h (no f) = sym (level-other x f) ∙ h

        parent_old : (i : ℕ) → i < len →
            Out (queue' i) ⊎ ((j : ℕ) × (j < i) × Next (queue' i) (queue' j) × (level' (queue' j) ≤ level' (queue' i)))
        parent_old i l = rw (q-other i l) (go (F.parents i l))
          where
            go : Out (queue i) ⊎ ((j : ℕ) × (j < i) × Next (queue i) (queue j) × (level (queue j) ≤ level (queue i))) →
                Out (queue i) ⊎ ((j : ℕ) × (j < i) × Next (queue i) (queue' j) × (level' (queue' j) ≤ level' (queue i)))
            go (inl o) = inl o
            go (inr (j, lj, b, h)) =
                let k : j < len = omega arith in
                let p = (old j k).0 in
                let q = kept (queue i) (old i l).1 in
                inr (j, lj, rw (q-other j k) b, omega arith)

        parent_new : Out (queue' len) ⊎ ((j : ℕ) × (j < len) × Next (queue' len) (queue' j) × (level' (queue' j) ≤ level' (queue' len)))
        parent_new = rw qc (go why)
          where
            go : Out c ⊎ ((j : ℕ) × (j < len) × Next c (queue j)) →
                Out c ⊎ ((j : ℕ) × (j < len) × Next c (queue' j) × (level' (queue' j) ≤ level' c))
            go (inl o) = inl o
            go (inr (j, k, b)) =
                let p = old j k in
                let h = F.under (queue j) (on (queue j) p.2) p.1 in
                let e = level-c in
                inr (j, k, rw (q-other j k) b, omega arith)

        flat' : (x m : ℕ) → Next x m → ((x ≡ c) × (level' x ≡ v)) ⊎ ((0 < level x) × (level' x ≡ level x)) →
            ((m ≡ c) × (level' m ≡ v)) ⊎ ((0 < level m) × (level' m ≡ level m)) → (level' x ≤ key x) ⊎ (level' x ≤ level' m)
        flat' x m b (inl w) (inl u) = let p = w.1 in let q = u.1 in inr (omega arith)
        flat' x m b (inl w) (inr u) =
            ⊎_elim (λ h. inl (rw (w.1, w.0) h)) (λ e. let p = w.1 in let q = u.1 in inr (omega arith))
            (beside_c m (rw w.0 at b) u.0)
        flat' x m b (inr w) (inl u) =
            let p = w.1 in let q = u.1 in let h = (F.under x (on x (next_from x m b)) w.0).1 in inr (omega arith)
        flat' x m b (inr w) (inr u) = rw (w.1, u.1) (F.flat x m b w.0 u.0)

  -- what is spread before the queue's first is spread: so the first goes
  pub popped : head < len → ((m : ℕ) → Next (queue head) m → (0 < level m) ⊎ Later m) →
      Flood size Cell Out Next Later key queue level v (head + 1) len
  popped l s =
      record {
        queued = F.queued;
        placed = F.placed;
        under = F.under;
        front = λ i h k. F.front i h (omega arith);
        parents = F.parents;
        outs = F.outs;
        outs_later = F.outs_later;
        spread = λ i m h. below_more (λ j. Next (queue j) m → _) head (λ j k b. F.spread j m k b) (s m) i h;
        flat = F.flat;
        count = F.count;
        order = omega arith;
      }

-- at the next place of the order: the level rises, and a cell that is no longer ahead is reached, or no outlet and beside no reached cell
module _ {size : ℕ} {Cell Out : ℕ → Type 0} {Next : ℕ → ℕ → Type 0} {Later Later' : ℕ → Type 0} {key queue level : ℕ → ℕ} {v w len : ℕ}
    (F : Flood size Cell Out Next Later key queue level v len len) where
  pub moved : v ≤ w → ((c : ℕ) → Out c → level c ≡ 0 → Later c → Later' c) →
      ((i m : ℕ) → i < len → Next (queue i) m → Later m → (0 < level m) ⊎ Later' m) →
      Flood size Cell Out Next Later' key queue level w len len
  moved h o s =
      record {
        queued = F.queued;
        placed = F.placed;
        under = λ c l k. let y = F.under c l k in (y.0, omega arith);
        front = λ i l k. let z : ⊥ = omega arith in absurd z;
        parents = F.parents;
        outs = F.outs;
        outs_later = λ c q e. o c q e (F.outs_later c q e);
        spread = λ i m l b. ⊎_elim inl (s i m l b) (F.spread i m l b);
        flat = F.flat;
        count = F.count;
        order = F.order;
      }
