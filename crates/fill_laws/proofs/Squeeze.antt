-- The laws of a filling, with no geometry: a certified sheet is what stands after as many passes as there are cells; that sheet is at most
-- the highest elevation of every way to an outlet; one pass more changes nothing; it is at most every drained sheet, and drains itself.
use mathlib.Core.Path.{◌≡◌, refl, sym, ◌∙◌, ap, subst}
use mathlib.Core.Logic.{◌⊎◌, inl, inr, ⊎_elim}
use Prim.Native.Nat.{ℕ, zero, suc, ◌+◌, ◌-◌, ◌≤◌, ◌<◌}
use native.Mathlib.Omega.{arith}
use lib.ListN.{length}
use lib.IntN.{ℤ, pos, negsuc}
use lib.Dec.{T, ltb→lt, leb→le}
use lib.Signed.{le_z, lt_z, ◌≤ℤ◌, ◌<ℤ◌, ≤ℤ_refl}
use Rattle.grid.specs.Below.{In}
use Rattle.grid.specs.Sheet.{void, top}
use Rattle.fill_laws.specs.Filling.{peak, Falls, Filling}
use Rattle.fill_laws.specs.Certificate.{Reached, Certificate}
use Rattle.grid_laws.proofs.Order.{≤ℤ-trans, ≤ℤ-antisym, ≤ℤ-of-eq, ≤ℤ-or-<, ≤-higher-left, ≤-higher-right, higher_≤, higher_mono}
use Rattle.grid_laws.proofs.Few.{few}
use Rattle.join_laws.specs.Ways.{Way, stop, step, cells}
use Rattle.join_laws.proofs.Ways.{some_cell, once}

-- the elevation above the void
height : ℤ → ℕ
height (pos n) = 32768 + n
height (negsuc n) = 32767 - n

height_lt_z : (a b : ℤ) → T (le_z void a) → T (lt_z a b) → height a < height b
unfolding void height
height_lt_z (pos a) (pos b) l h = omega (arith, ltb→lt a b h)
height_lt_z (pos a) (negsuc b) l h = absurd h
height_lt_z (negsuc a) (pos b) l h = omega arith
height_lt_z (negsuc a) (negsuc b) l h = omega (arith, ltb→lt b a h, leb→le a 32767 l)

height_< : {a b : ℤ} → void ≤ℤ a → a <ℤ b → height a < height b
height_< {a} {b} l h = height_lt_z a b l.le h.lt

module _ {size : ℕ} {Cell Out : ℕ → Type 0} {Next : ℕ → ℕ → Type 0} {e : ℕ → ℤ} {F : ℕ → ℕ → ℤ} (L : Filling size Cell Out Next e F) where
  -- ---- passes: each is at or above the input, raises nothing, and leaves the outlets
  pub input_≤ : (k c : ℕ) → Cell c → e c ≤ℤ F k c
  input_≤ zero c d = ⊎_elim (λ o. ≤ℤ-of-eq (sym (L.first_out c o))) (λ n. rw (L.first_in c d n) (L.input_≤_top c d)) (L.outlet? c d)
  input_≤ (suc k) c d = L.above k c d

  falls : (k c : ℕ) → Cell c → F (suc k) c ≤ℤ F k c
  falls k c d = ≤ℤ-trans (L.by_self k c d) (higher_≤ (input_≤ k c d) (≤ℤ_refl (F k c)))

  pub ≤-top : (k c : ℕ) → Cell c → F k c ≤ℤ top
  ≤-top zero c d = ⊎_elim (λ o. rw (L.first_out c o) (L.input_≤_top c d)) (λ n. ≤ℤ-of-eq (L.first_in c d n)) (L.outlet? c d)
  ≤-top (suc k) c d = ≤ℤ-trans (falls k c d) (≤-top k c d)

  outlet_≤ : (k c : ℕ) → Out c → F k c ≤ℤ e c
  outlet_≤ zero c o = ≤ℤ-of-eq (L.first_out c o)
  outlet_≤ (suc k) c o = ≤ℤ-trans (falls k c (L.out_cell c o)) (outlet_≤ k c o)

  pub at_outlet : (k c : ℕ) → Out c → F k c ≡ e c
  at_outlet k c o = ≤ℤ-antisym (outlet_≤ k c o) (input_≤ k c (L.out_cell c o))

  -- ---- the certificate
  module _ {G : ℕ → ℤ} {queue : ℕ → ℕ} {len : ℕ} (C : Certificate size Cell Out Next e G queue len) where
    place_≤_top : (m i : ℕ) → i < m → i < len → G (queue i) ≤ℤ top
    place_≤_top zero i h l = let z : ⊥ = omega arith in absurd z
    place_≤_top (suc m) i h l = go (C.reached i l) (λ j k. place_≤_top m j (omega arith) (omega arith))
      where
        go : Reached Out Next G queue i → ((j : ℕ) → j < i → G (queue j) ≤ℤ top) → G (queue i) ≤ℤ top
        go (inl o) r = rw (C.at_outlets (queue i) o) (L.input_≤_top (queue i) (L.out_cell (queue i) o))
        go (inr (j, k, b, m)) r =
            ≤ℤ-trans (C.no_higher (queue i) (queue j) b)
            (higher_≤ (L.input_≤_top (queue i) (L.from_cell (queue i) (queue j) b)) (r j k))

    certified_≤_top : (c : ℕ) → Cell c → G c ≤ℤ top
    certified_≤_top c d =
        let w = C.placed c d in subst (λ (x : ℕ). G x ≤ℤ top) w.2 (place_≤_top (suc w.0) w.0 (omega arith) w.1)

    -- no pass is below it
    certified_≤ : (k c : ℕ) → Cell c → G c ≤ℤ F k c
    certified_≤ zero c d =
        ⊎_elim
        (λ o. rw (L.first_out c o) (≤ℤ-of-eq (C.at_outlets c o)))
        (λ n. rw (L.first_in c d n) (certified_≤_top c d))
        (L.outlet? c d)
    certified_≤ (suc k) c d =
        ⊎_elim
        (λ h. ≤ℤ-trans (≤ℤ-trans (certified_≤ k c d) (≤-higher-right (e c) (F k c))) h)
        (λ w. let r = certified_≤ k w.0 (L.to_cell c w.0 w.1) in
        ≤ℤ-trans (≤ℤ-trans (C.no_higher c w.0 w.1) (higher_mono (≤ℤ_refl (e c)) r)) w.2)
        (L.attained k c d)

    -- the cell at place i is no higher than it from pass i on
    ≤-certified : (k i : ℕ) → i < len → i ≤ k → F k (queue i) ≤ℤ G (queue i)
    ≤-certified zero i h l = go (C.reached i h)
      where
        go : Reached Out Next G queue i → F 0 (queue i) ≤ℤ G (queue i)
        go (inl o) = ≤ℤ-of-eq (at_outlet 0 (queue i) o ∙ sym (C.at_outlets (queue i) o))
        go (inr (j, p, b, m)) = let z : ⊥ = omega arith in absurd z
    ≤-certified (suc k) i h l = go (C.reached i h) (λ j p. ≤-certified k j (omega arith) (omega arith))
      where
        go : Reached Out Next G queue i → ((j : ℕ) → j < i → F k (queue j) ≤ℤ G (queue j)) → F (suc k) (queue i) ≤ℤ G (queue i)
        go (inl o) r = ≤ℤ-of-eq (at_outlet (suc k) (queue i) o ∙ sym (C.at_outlets (queue i) o))
        go (inr (j, p, b, m)) r =
            let a : e (queue i) ≤ℤ G (queue i) = C.above (queue i) (L.from_cell (queue i) (queue j) b) in
            ≤ℤ-trans (L.by_next k (queue i) (queue j) b) (higher_≤ a (≤ℤ-trans (r j p) m))

    pub certified : (c : ℕ) → Cell c → G c ≡ F size c
    certified c d =
        ≤ℤ-antisym
        (certified_≤ size c d)
        (let w = C.placed c d in
        let m = C.few in
        subst (λ (x : ℕ). F size x ≤ℤ G x) w.2 (≤-certified size w.0 w.1 (omega arith)))

  -- ---- ways
  pub start : {c : ℕ} → Way Out Next c → Cell c
  start (stop {c = c} o) = L.out_cell c o
  start (step {c = c} {n = n} b w) = L.from_cell c n b

  on : {c : ℕ} (w : Way Out Next c) (x : ℕ) → In x (cells w) → x < size
  unfolding cells
  on (stop {c = c} o) x (inl q) = rw q (L.on_sheet c (L.out_cell c o))
  on (stop o) x (inr h) = absurd h
  on (step {c = c} b w) x (inl q) = rw q (L.on_sheet c (start (step b w)))
  on (step b w) x (inr h) = on w x h

  -- after as many passes as a way has steps, its first cell is at most the way's peak
  within : (k : ℕ) {c : ℕ} (w : Way Out Next c) → length (cells w) ≤ suc k → F k c ≤ℤ peak e w
  unfolding peak cells
  within k (stop {c = c} o) h = outlet_≤ k c o
  within zero (step b w) h = absurd (some_cell w (omega arith))
  within (suc k) (step {c = c} {n = n} b w) h = ≤ℤ-trans (L.by_next k c n b) (higher_mono (≤ℤ_refl (e c)) (within k w (omega arith)))

  -- a way's peak is the highest of its cells
  ≤-peak-of : {c : ℕ} (w : Way Out Next c) (x : ℕ) → In x (cells w) → e x ≤ℤ peak e w
  unfolding peak cells
  ≤-peak-of (stop {c = c} o) x (inl q) = ≤ℤ-of-eq (ap e q)
  ≤-peak-of (stop o) x (inr h) = absurd h
  ≤-peak-of (step {c = c} b w) x (inl q) = ≤ℤ-trans (≤ℤ-of-eq (ap e q)) (≤-higher-left (e c) (peak e w))
  ≤-peak-of (step {c = c} b w) x (inr h) = ≤ℤ-trans (≤-peak-of w x h) (≤-higher-right (e c) (peak e w))

  peak_of_≤ : {c : ℕ} (w : Way Out Next c) (z : ℤ) → ((x : ℕ) → In x (cells w) → e x ≤ℤ z) → peak e w ≤ℤ z
  unfolding peak cells
  peak_of_≤ (stop {c = c} o) z h = h c (inl refl)
  peak_of_≤ (step {c = c} b w) z h = higher_≤ (h c (inl refl)) (peak_of_≤ w z (λ x i. h x (inr i)))

  -- ---- minimax: after all passes a cell is at most the peak of every way from it
  pub ≤-peak : {c : ℕ} (w : Way Out Next c) → F size c ≤ℤ peak e w
  ≤-peak w =
      let r = once Out Next w in
      let h : length (cells r.0) ≤ size = few size (cells r.0) r.1 (on r.0) in
      ≤ℤ-trans (within size r.0 (omega arith)) (peak_of_≤ r.0 (peak e w) (λ x i. ≤-peak-of w x (r.2 x i)))

  -- and after each pass it is at least the peak of some way, or at the top
  peak_≤_pass : (k c : ℕ) → Cell c → (top ≤ℤ F k c) ⊎ ((w : Way Out Next c) × (peak e w ≤ℤ F k c))
  unfolding peak
  peak_≤_pass zero c d =
      ⊎_elim (λ o. inr (stop o, ≤ℤ-of-eq (sym (L.first_out c o)))) (λ n. inl (≤ℤ-of-eq (sym (L.first_in c d n)))) (L.outlet? c d)
  peak_≤_pass (suc k) c d =
      ⊎_elim
      (λ h. let up : F k c ≤ℤ F (suc k) c = ≤ℤ-trans (≤-higher-right (e c) (F k c)) h in
      ⊎_elim (λ t. inl (≤ℤ-trans t up)) (λ w. inr (w.0, ≤ℤ-trans w.1 up)) (peak_≤_pass k c d))
      (λ r. let up : F k r.0 ≤ℤ F (suc k) c = ≤ℤ-trans (≤-higher-right (e c) (F k r.0)) r.2 in
      ⊎_elim
      (λ t. inl (≤ℤ-trans t up))
      (λ w. inr (step r.1 w.0, ≤ℤ-trans (higher_mono (≤ℤ_refl (e c)) w.1) r.2))
      (peak_≤_pass k r.0 (L.to_cell c r.0 r.1)))
      (L.attained k c d)

  -- ---- one pass more changes nothing
  pub stable : (c : ℕ) → Cell c → F (suc size) c ≡ F size c
  stable c d =
      ≤ℤ-antisym
      (falls size c d)
      (⊎_elim (λ t. ≤ℤ-trans (≤-top size c d) t) (λ w. ≤ℤ-trans (≤-peak w.0) w.1) (peak_≤_pass (suc size) c d))

  -- ---- a sheet f at or above the input that falls along a way from c is no lower at c
  module _ (f : ℕ → ℤ) (above : (c : ℕ) → Cell c → e c ≤ℤ f c) where
    peak_≤ : {c : ℕ} (w : Way Out Next c) → Falls f w → peak e w ≤ℤ f c
    unfolding peak Falls
    peak_≤ (stop {c = c} o) n = above c (L.out_cell c o)
    peak_≤ (step {c = c} b w) n = higher_≤ (above c (start (step b w))) (≤ℤ-trans (peak_≤ w n.1) n.0)

    pub ≤-drained : {c : ℕ} (w : Way Out Next c) → Falls f w → F size c ≤ℤ f c
    ≤-drained w n = ≤ℤ-trans (≤-peak w) (peak_≤ w n)

  -- ---- where each cell has a way, some way attains its elevation after all passes, and some way falls on that sheet
  FallingWay : ℕ → Type 0
  FallingWay c = (w : Way Out Next c) × Falls (F size) w

  module _ (some : (c : ℕ) → Cell c → Way Out Next c) where
    peak_≤_top : {c : ℕ} (w : Way Out Next c) → peak e w ≤ℤ top
    unfolding peak
    peak_≤_top (stop {c = c} o) = L.input_≤_top c (L.out_cell c o)
    peak_≤_top (step {c = c} b w) = higher_≤ (L.input_≤_top c (start (step b w))) (peak_≤_top w)

    pub lowest_way : (c : ℕ) → Cell c → (w : Way Out Next c) × (peak e w ≡ F size c)
    lowest_way c d =
        ⊎_elim
        (λ h. (some c d, ≤ℤ-antisym (≤ℤ-trans (peak_≤_top (some c d)) h) (≤-peak (some c d))))
        (λ w. (w.0, ≤ℤ-antisym w.1 (≤-peak w.0)))
        (peak_≤_pass size c d)

    -- along a way whose peak is its first cell's elevation t: a cell of it is at t still, or has a falling way from below t
    along :
        (t : ℤ)
        → ((x : ℕ) → Cell x → F size x <ℤ t → FallingWay x)
        → {c : ℕ} (w : Way Out Next c) → t ≤ℤ F size c → peak e w ≤ℤ t → FallingWay c
    unfolding FallingWay peak Falls
    along t ih (stop o) h k = (stop o, tt)
    along t ih (step {c = c} {n = n} b w) h k =
        let low : F size n ≤ℤ t = ≤ℤ-trans (≤-peak w) (≤ℤ-trans (≤-higher-right (e c) (peak e w)) k) in
        ⊎_elim
        (λ p. let r = along t ih w p (≤ℤ-trans (≤-higher-right (e c) (peak e w)) k) in (step b r.0, (≤ℤ-trans low h, r.1)))
        (λ p. let r = ih n (start w) p in (step b r.0, (≤ℤ-trans low h, r.1)))
        (≤ℤ-or-< t (F size n))

    -- by induction on the elevation above the void
    by_height : (m c : ℕ) → Cell c → height (F size c) < m → FallingWay c
    by_height zero c d h = let z : ⊥ = omega arith in absurd z
    by_height (suc m) c d h =
        let r = lowest_way c d in
        along
        (F size c)
        (λ x y p. by_height m x y (let q = height_< (≤ℤ-trans (L.void_≤_input x y) (input_≤ size x y)) p in omega arith))
        r.0
        (≤ℤ_refl (F size c))
        (≤ℤ-of-eq r.1)

    pub falling_way : (c : ℕ) → Cell c → (w : Way Out Next c) × Falls (F size) w
    unfolding FallingWay
    falling_way c d = by_height (suc (height (F size c))) c d (omega arith)
