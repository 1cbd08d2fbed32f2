-- A batch that has seen every candidate is the next stretch of the entries.
use mathlib.Core.Path.{◌≡◌, refl, sym, ◌∙◌, ap, subst}
use mathlib.Core.List.{List, [], ◌∷◌}
use mathlib.Core.Logic.{◌⊎◌, inl, inr}
use Prim.Native.Nat.{ℕ, zero, suc, ◌+◌, ◌-◌, ◌≤◌, ◌<◌}
use native.Mathlib.Nat.{le_antisymm}
use native.Mathlib.Omega.{arith}
use native.Mathlib.Decide.{dec_lt, dec_le}
use lib.ListN.{length, get_or}
use Rattle.grid.specs.PourPoints.{Entry}
use Rattle.pour_laws.specs.Words.{pair_of, rank_of, Among}
use Rattle.pour_laws.specs.Batch.{Held, Batch, pairs_of, ranks_of, Reached}
use Rattle.pour_laws.proofs.Batch.{rising_to, rising_le}
use Rattle.pour_laws.proofs.Whole.{Rising, Above, Whole, AllFit}

-- ---- entries by their number
above_at : (p : ℕ) (l : List Entry) → Above p l → (i : ℕ) → i < length l → p < get_or (pairs_of l) i 0
above_at p [] a i h = let z : ⊥ = omega arith in absurd z
above_at p (y ∷ l) a zero h = a.0
above_at p (y ∷ l) a (suc i) h = above_at p l a.1 i (omega arith)

rising_at : (l : List Entry) → Rising l → (i : ℕ) → i + 1 < length l → get_or (pairs_of l) i 0 < get_or (pairs_of l) (i + 1) 0
rising_at [] r i h = let z : ⊥ = omega arith in absurd z
rising_at (y ∷ l) r zero h = above_at (pair_of y) l r.0 0 (omega arith)
rising_at (y ∷ l) r (suc i) h =
    let e : suc (i + 1) ≡ suc i + 1 = omega arith in
    subst (λ (m : ℕ). get_or (pairs_of l) i 0 < get_or (pairs_of (y ∷ l)) m 0) e (rising_at l r.1 i (omega arith))

abbrev Numbered : List Entry → Entry → ℕ → Type 0
Numbered l z i = (i < length l) × (get_or (pairs_of l) i 0 ≡ pair_of z) × (get_or (ranks_of l) i 0 ≡ rank_of z)

number_of : (l : List Entry) (z : Entry) → Among z l → (i : ℕ) × Numbered l z i
number_of [] z a = absurd a
number_of (y ∷ l) z (inl e) = (0, (omega arith, ap (λ (v : Entry). pair_of v) (sym e), ap (λ (v : Entry). rank_of v) (sym e)))
number_of (y ∷ l) z (inr a) = let n = number_of l z a in (suc n.0, ((let h = n.1.0 in omega arith), n.1.1, n.1.2))

entry_at : (l : List Entry) (i : ℕ) → i < length l → (z : Entry) × Among z l × Numbered l z i
entry_at [] i h = let z : ⊥ = omega arith in absurd z
entry_at (y ∷ l) zero h = (y, inl refl, (h, refl, refl))
entry_at (y ∷ l) (suc i) h = let n = entry_at l i (omega arith) in (n.0, inr n.1, (h, n.2.1, n.2.2))

-- at the start nothing is passed, since no pair is 0
pub reached_none : (seen l : List Entry) → AllFit seen → Whole seen l → Reached l 0 0
reached_none seen l f w = record { within = omega arith; passed = λ i h. absurd (nothing i h); ahead = λ i p h. ahead i h }
  where
    nothing : (i : ℕ) → i < 0 → ⊥
    nothing i h = omega arith

    ahead : (i : ℕ) → i < length l → 0 < get_or (pairs_of l) i 0
    ahead i h =
        let z = entry_at l i h in
        let a = (f z.0 (w.from z.0 z.1)).apart in
        let e = z.2.1 in
        omega arith

module _ {B limit n done : ℕ} {seen l : List Entry} {pairs ranks : List ℕ} (b : Batch B limit seen n pairs ranks) (w : Whole seen l)
    (r : Reached l limit done) where
  abbrev Same : ℕ → Type 0
  Same j = (done + j < length l) × (get_or (pairs_of l) (done + j) 0 ≡ get_or pairs j 0)

  rises : (i j : ℕ) → i < j → j < length l → get_or (pairs_of l) i 0 < get_or (pairs_of l) j 0
  rises = rising_to (pairs_of l) (length l) (rising_at l w.rising)

  -- the entry of the pair at place j
  entry_of : (j : ℕ) → j < n → (i : ℕ) × (done ≤ i) × (i < length l) × (get_or (pairs_of l) i 0 ≡ get_or pairs j 0)
      × (get_or (ranks_of l) i 0 ≤ get_or ranks j 0)
  entry_of j h =
      let f = b.from j h in
      let y = w.all f.0 f.1 in
      let m = number_of l y.0 y.1 in
      let e : get_or (pairs_of l) m.0 0 ≡ get_or pairs j 0 = m.1.1 ∙ y.2 ∙ f.2 in
      let o = b.above j h in
      let k : done ≤ m.0 = not_passed m.0 (get_or pairs j 0) e o in
      let s = y.3 in
      let t = m.1.2 in
      let u = f.3 in
      (m.0, k, m.1.0, e, omega arith)
    where
      not_passed : (i p : ℕ) → get_or (pairs_of l) i 0 ≡ p → limit < p → done ≤ i
      not_passed i p e o = go (dec_le done i)
        where
          go : Dec (done ≤ i) → done ≤ i
          go (yes k) = k
          go (no k) = let v = r.passed i (omega arith) in let z : ⊥ = omega arith in absurd z

  -- where the batch has the pair of the entry of number done + j
  place_of_lem : (j : ℕ)
      → done + j < length l
      → ((i : ℕ) × (i < n) × (get_or pairs i 0 ≡ get_or (pairs_of l) (done + j) 0) × (get_or ranks i 0 ≤ get_or (ranks_of l) (done + j) 0))
      ⊎ ((n ≡ B) × (get_or pairs (B - 1) 0 < get_or (pairs_of l) (done + j) 0))
  place_of_lem j h = go (b.all z.0 (w.from z.0 z.1) (let o = r.ahead (done + j) (omega arith) h in let e = z.2.1 in omega arith))
    where
      z : (z : Entry) × Among z l × Numbered l z (done + j)
      z = entry_at l (done + j) h

      go : Held n pairs ranks z.0 ⊎ ((n ≡ B) × (get_or pairs (B - 1) 0 < pair_of z.0))
          → ((i : ℕ) × (i < n) × (get_or pairs i 0 ≡ get_or (pairs_of l) (done + j) 0) × (get_or ranks i 0 ≤ get_or (ranks_of l) (done + j) 0))
          ⊎ ((n ≡ B) × (get_or pairs (B - 1) 0 < get_or (pairs_of l) (done + j) 0))
      go (inl v) = inl (v.0, v.1, v.2 ∙ sym z.2.1, (let s = v.3 in let t = z.2.2 in omega arith))
      go (inr v) = inr (v.0, (let s = v.1 in let t = z.2.1 in omega arith))

  same_next : (j : ℕ) → j < n → ((k : ℕ) → k < j → Same k) → Same j
  same_next j h before = (long, go (place_of_lem j long))
    where
      x : (i : ℕ) × (done ≤ i) × (i < length l) × (get_or (pairs_of l) i 0 ≡ get_or pairs j 0) × (get_or (ranks_of l) i 0 ≤ get_or ranks j 0)
      x = entry_of j h

      not_before : (i : ℕ) → done ≤ i → get_or (pairs_of l) i 0 ≡ get_or pairs j 0 → done + j ≤ i
      not_before i p e = search_below (dec_le (done + j) i)
        where
          search_below : Dec (done + j ≤ i) → done + j ≤ i
          search_below (yes k) = k
          search_below (no k) =
              let s = (before (i - done) (omega arith)).1 in
              let d : done + (i - done) ≡ i = omega arith in
              let t : get_or (pairs_of l) i 0 ≡ get_or pairs (i - done) 0 = ap (λ (m : ℕ). get_or (pairs_of l) m 0) (sym d) ∙ s in
              let u = rising_to pairs n b.rising (i - done) j (omega arith) h in
              let z : ⊥ = omega arith in
              absurd z

      at_most : done + j ≤ x.0
      at_most = not_before x.0 x.1 x.3

      long : done + j < length l
      long = let p = at_most in let q = x.2 in omega arith

      no_more : get_or (pairs_of l) (done + j) 0 ≤ get_or pairs j 0
      no_more =
          let e = x.3 in
          let q = rising_le (pairs_of l) (length l) (rising_at l w.rising) (done + j) x.0 at_most x.2 in
          omega arith

      go : ((i : ℕ) × (i < n) × (get_or pairs i 0 ≡ get_or (pairs_of l) (done + j) 0) × (get_or ranks i 0 ≤ get_or (ranks_of l) (done + j) 0))
          ⊎ ((n ≡ B) × (get_or pairs (B - 1) 0 < get_or (pairs_of l) (done + j) 0))
          → get_or (pairs_of l) (done + j) 0 ≡ get_or pairs j 0
      go (inr v) =
          let e = v.0 in
          let s = v.1 in
          let m = no_more in
          let q = rising_le pairs n b.rising j (B - 1) (omega arith) (omega arith) in
          let z : ⊥ = omega arith in
          absurd z
      go (inl v) = here (dec_lt v.0 j) (dec_lt j v.0)
        where
          here : Dec (v.0 < j) → Dec (j < v.0) → get_or (pairs_of l) (done + j) 0 ≡ get_or pairs j 0
          here (yes p) q =
              let s = (before v.0 p).1 in
              let e = v.2 in
              let u = rises (done + v.0) (done + j) (omega arith) long in
              let z : ⊥ = omega arith in
              absurd z
          here (no p) (yes q) =
              let m = no_more in
              let e = v.2 in
              let u = rising_to pairs n b.rising j v.0 q v.1 in
              let z : ⊥ = omega arith in
              absurd z
          here (no p) (no q) = let e : v.0 ≡ j = omega arith in sym v.2 ∙ ap (λ (m : ℕ). get_or pairs m 0) e

  same_below : (m j : ℕ) → j < m → j < n → Same j
  same_below zero j h k = let z : ⊥ = omega arith in absurd z
  same_below (suc m) j h k = same_next j k (λ i p. same_below m i (omega arith) (omega arith))

  same : (j : ℕ) → j < n → Same j
  same j h = same_below (suc j) j (omega arith) h

  -- the pairs and the ranks are those of the entries from number done on
  pub pair_agrees : (j : ℕ) → j < n → get_or (pairs_of l) (done + j) 0 ≡ get_or pairs j 0
  pair_agrees j h = (same j h).1

  pub rank_agrees : (j : ℕ) → j < n → get_or (ranks_of l) (done + j) 0 ≡ get_or ranks j 0
  rank_agrees j h = le_antisymm upper (lower (place_of_lem j long))
    where
      long : done + j < length l
      long = (same j h).0

      upper : get_or (ranks_of l) (done + j) 0 ≤ get_or ranks j 0
      upper = let x = entry_of j h in subst (λ (m : ℕ). get_or (ranks_of l) m 0 ≤ get_or ranks j 0) (number x.0 x.2 x.3) x.4
        where
          number : (i : ℕ) → i < length l → get_or (pairs_of l) i 0 ≡ get_or pairs j 0 → i ≡ done + j
          number i k e = go (dec_lt i (done + j)) (dec_lt (done + j) i)
            where
              go : Dec (i < done + j) → Dec (done + j < i) → i ≡ done + j
              go (yes p) q = let u = rises i (done + j) p long in let s = (same j h).1 in omega arith
              go (no p) (yes q) = let u = rises (done + j) i q k in let s = (same j h).1 in omega arith
              go (no p) (no q) = omega arith

      lower : ((i : ℕ) × (i < n) × (get_or pairs i 0 ≡ get_or (pairs_of l) (done + j) 0) × (get_or ranks i 0 ≤ get_or (ranks_of l) (done + j) 0))
          ⊎ ((n ≡ B) × (get_or pairs (B - 1) 0 < get_or (pairs_of l) (done + j) 0))
          → get_or ranks j 0 ≤ get_or (ranks_of l) (done + j) 0
      lower (inr v) =
          let e = v.0 in
          let s = v.1 in
          let t = (same j h).1 in
          let q = rising_le pairs n b.rising j (B - 1) (omega arith) (omega arith) in
          omega arith
      lower (inl v) = here (dec_lt v.0 j) (dec_lt j v.0)
        where
          here : Dec (v.0 < j) → Dec (j < v.0) → get_or ranks j 0 ≤ get_or (ranks_of l) (done + j) 0
          here (yes p) q = let u = rising_to pairs n b.rising v.0 j p h in let s = (same j h).1 in let e = v.2 in omega arith
          here (no p) (yes q) =
              let u = rising_to pairs n b.rising j v.0 q v.1 in let s = (same j h).1 in let e = v.2 in omega arith
          here (no p) (no q) = let e : v.0 ≡ j = omega arith in subst (λ (m : ℕ). get_or ranks m 0 ≤ get_or (ranks_of l) (done + j) 0) e v.3

  pub next_within : done + n ≤ length l
  next_within = go n refl
    where
      go : (m : ℕ) → n ≡ m → done + n ≤ length l
      go zero e = let q = r.within in omega arith
      go (suc m) e = let q = (same m (omega arith)).0 in omega arith

  -- a batch that is not full has the last of the entries
  pub finished : n < B → done + n ≡ length l
  finished h = go (dec_lt (done + n) (length l))
    where
      go : Dec (done + n < length l) → done + n ≡ length l
      go (no p) = let q = next_within in omega arith
      go (yes p) = absurd (out (place_of_lem n p))
        where
          out : ((i : ℕ) × (i < n) × (get_or pairs i 0 ≡ get_or (pairs_of l) (done + n) 0) × (get_or ranks i 0 ≤ get_or (ranks_of l) (done + n) 0))
              ⊎ ((n ≡ B) × (get_or pairs (B - 1) 0 < get_or (pairs_of l) (done + n) 0)) → ⊥
          out (inl v) =
              let k = v.1 in
              let e = v.2 in
              let s = (same v.0 v.1).1 in
              let u = rises (done + v.0) (done + n) (omega arith) p in
              omega arith
          out (inr v) = let e = v.0 in omega arith

  -- after a full one the entries go on above its last pair
  pub reached_next : 0 < B → n ≡ B → Reached l (get_or pairs (B - 1) 0) (done + n)
  reached_next h e = record { within = next_within; passed = passed; ahead = ahead }
    where
      last : get_or (pairs_of l) (done + (B - 1)) 0 ≡ get_or pairs (B - 1) 0
      last = (same (B - 1) (omega arith)).1

      passed : (i : ℕ) → i < done + n → get_or (pairs_of l) i 0 ≤ get_or pairs (B - 1) 0
      passed i k =
          let s = last in
          let u = rising_le (pairs_of l) (length l) (rising_at l w.rising) i (done + (B - 1)) (omega arith) (let q = next_within in
          omega arith) in
          omega arith

      ahead : (i : ℕ) → done + n ≤ i → i < length l → get_or pairs (B - 1) 0 < get_or (pairs_of l) i 0
      ahead i p k = let s = last in let u = rises (done + (B - 1)) i (omega arith) k in omega arith
