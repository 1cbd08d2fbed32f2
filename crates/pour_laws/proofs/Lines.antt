-- The scan by lines meets every candidate of the definition's list, which has both directions of each two cells, and no other.
use mathlib.Core.Path.{◌≡◌, refl, sym, ◌∙◌, ap, subst}
use mathlib.Core.Bool.{Bool, true, false, not, cond, ◌&&◌}
use mathlib.Core.List.{List, [], ◌∷◌, ◌++◌}
use mathlib.Core.Logic.{◌⊎◌, inl, inr, ⊎_elim}
use Prim.Native.Nat.{ℕ, zero, suc, ◌+◌, ◌-◌, ◌*◌, ◌<◌, min}
use native.Mathlib.Nat.{min_comm, max_comm}
use native.Mathlib.Omega.{arith}
use native.Mathlib.Decide.{dec_lt, ℕ_discrete}
use lib.Dec.{eqb, ltb, leb}
use lib.ListN.{length, get_or}
use lib.IntN.{ℤ, pos, negsuc}
use lib.Signed.{lt_z}
use borrow.Author.Tests.{lt-ltb, le-leb, lt-leb, eq-eqb, ne_eqb, ltb-true}
use Rattle.grid.specs.declared.Grid.{Grid}
use Rattle.grid.specs.Below.{join_below}
use Rattle.grid.specs.Sheet.{size, at, higher, is_data, neighbour}
use Rattle.grid.specs.PourPoints.{Entry, candidate, candidates_at, candidates, pour_points}
use Rattle.grid_laws.proofs.Cells.{on_sheet}
use Rattle.pour_laws.specs.Words.{Among}
use Rattle.pour_laws.specs.Lines.{candidate_of, run, between, line, lines}
use Rattle.pour_laws.proofs.Neighbours.{Later, east, south_east_lem, south, south_west_lem, later_touches, touch_later}
use Rattle.pour_laws.proofs.Whole.{Whole, AllFit, whole, whole_same}

-- ---- lists of lists
pub among_left : (x : Entry) (a b : List Entry) → Among x a → Among x (a ++ b)
among_left x [] b i = absurd i
among_left x (y ∷ a) b (inl e) = inl e
among_left x (y ∷ a) b (inr i) = inr (among_left x a b i)

pub among_right : (x : Entry) (a b : List Entry) → Among x b → Among x (a ++ b)
among_right x [] b i = i
among_right x (y ∷ a) b i = inr (among_right x a b i)

pub among_either : (x : Entry) (a b : List Entry) → Among x (a ++ b) → Among x a ⊎ Among x b
among_either x [] b i = inr i
among_either x (y ∷ a) b (inl e) = inl (inl e)
among_either x (y ∷ a) b (inr i) = ⊎_elim (λ j. inl (inr j)) (λ j. inr j) (among_either x a b i)

join_in : (x : Entry) (n : ℕ) (f : ℕ → List Entry) (k : ℕ) → k < n → Among x (f k) → Among x (join_below n f)
unfolding join_below
join_in x zero f k h i = let z : ⊥ = omega arith in absurd z
join_in x (suc n) f k h i = go (dec_lt k n) (λ l. join_in x n f k l i)
  where
    go : Dec (k < n) → (k < n → Among x (join_below n f)) → Among x (join_below n f ++ f n)
    go (yes l) r = among_left x (join_below n f) (f n) (r l)
    go (no l) r = let e : k ≡ n = omega arith in among_right x (join_below n f) (f n) (subst (λ (m : ℕ). Among x (f m)) e i)

join_out : (x : Entry) (n : ℕ) (f : ℕ → List Entry) → Among x (join_below n f) → (k : ℕ) × (k < n) × Among x (f k)
unfolding join_below
join_out x zero f i = absurd i
join_out x (suc n) f i = go (among_either x (join_below n f) (f n) i) (join_out x n f)
  where
    go : Among x (join_below n f) ⊎ Among x (f n) → (Among x (join_below n f) → (k : ℕ) × (k < n) × Among x (f k)) →
        (k : ℕ) × (k < suc n) × Among x (f k)
    go (inl j) r = let w = r j in (w.0, (let l = w.1 in omega arith), w.2)
    go (inr j) r = (n, omega arith, j)

-- ---- the candidate of two cells is that of the two in the other order
higher_same : (a b : ℤ) → higher a b ≡ higher b a
unfolding higher
higher_same (pos a) (pos b) = go (dec_lt a b) (dec_lt b a)
  where
    go : Dec (a < b) → Dec (b < a) → cond (leb a b) (pos b) (pos a) ≡ cond (leb b a) (pos a) (pos b)
    go (yes p) q = rw (le-leb a b (omega arith), lt-leb b a p)
    go (no p) (yes q) = rw (lt-leb a b q, le-leb b a (omega arith))
    go (no p) (no q) = let e : b ≡ a = omega arith in rw (le-leb a b (omega arith), le-leb b a (omega arith)) (ap pos e)
higher_same (pos a) (negsuc b) = refl
higher_same (negsuc a) (pos b) = refl
higher_same (negsuc a) (negsuc b) = go (dec_lt a b) (dec_lt b a)
  where
    go : Dec (a < b) → Dec (b < a) → cond (leb b a) (negsuc b) (negsuc a) ≡ cond (leb a b) (negsuc a) (negsuc b)
    go (yes p) q = rw (le-leb a b (omega arith), lt-leb b a p)
    go (no p) (yes q) = rw (lt-leb a b q, le-leb b a (omega arith))
    go (no p) (no q) = let e : b ≡ a = omega arith in rw (le-leb a b (omega arith), le-leb b a (omega arith)) (ap negsuc e)

not_both : (a b : ℤ) → lt_z a b ≡ true → lt_z b a ≡ true → ⊥
not_both (pos a) (pos b) h k = omega (arith, ltb-true a b h, ltb-true b a k)
not_both (pos a) (negsuc b) h k = let z : ◌≡◌ {A = ℕ} 0 1 = cc in omega arith
not_both (negsuc a) (pos b) h k = let z : ◌≡◌ {A = ℕ} 0 1 = cc in omega arith
not_both (negsuc a) (negsuc b) h k = omega (arith, ltb-true b a h, ltb-true a b k)

module _ (e : List ℤ) (labels : List ℕ) (c n : ℕ) where
  cell_same : cond (lt_z (at e n) (at e c)) c (cond (lt_z (at e c) (at e n)) n (min c n))
      ≡ cond (lt_z (at e c) (at e n)) n (cond (lt_z (at e n) (at e c)) c (min n c))
  cell_same = go (lt_z (at e n) (at e c)) refl (lt_z (at e c) (at e n)) refl
    where
      go : (t : Bool) → lt_z (at e n) (at e c) ≡ t → (u : Bool) → lt_z (at e c) (at e n) ≡ u →
          cond t c (cond u n (min c n)) ≡ cond u n (cond t c (min n c))
      go true p true q = absurd (not_both (at e n) (at e c) p q)
      go true p false q = refl
      go false p true q = refl
      go false p false q = min_comm c n

  candidate_same : candidate e labels c n ≡ candidate e labels n c
  unfolding candidate
  candidate_same =
      rw (
        min_comm (get_or labels c 0) (get_or labels n 0),
        max_comm (get_or labels c 0) (get_or labels n 0),
        higher_same (at e c) (at e n),
        cell_same,
      )

  eqb_same : eqb (get_or labels c 0) (get_or labels n 0) ≡ eqb (get_or labels n 0) (get_or labels c 0)
  eqb_same = go (ℕ_discrete (get_or labels c 0) (get_or labels n 0))
    where
      go : Dec (get_or labels c 0 ≡ get_or labels n 0) → eqb (get_or labels c 0) (get_or labels n 0) ≡ eqb (get_or labels n 0) (get_or labels c 0)
      go (yes p) = eq-eqb _ _ p ∙ sym (eq-eqb _ _ (sym p))
      go (no p) = ne_eqb _ _ p ∙ sym (ne_eqb _ _ (λ q. p (sym q)))

  and_same : (t u v : Bool) → (t && u && v) ≡ (u && t && v)
  and_same true true v = refl
  and_same true false v = refl
  and_same false true v = refl
  and_same false false v = refl

  candidate_of_same : candidate_of e labels c n ≡ candidate_of e labels n c
  unfolding candidate_of
  candidate_of_same =
      rw (candidate_same, eqb_same)
      (ap (λ (t : Bool). cond t (candidate e labels n c ∷ []) [])
      (and_same (is_data e c) (is_data e n) (not (eqb (get_or labels n 0) (get_or labels c 0)))))

-- ---- the runs and the lines
module _ (e : List ℤ) (labels : List ℕ) where
  run_in : (x : Entry) (c n k j : ℕ) → j < k → Among x (candidate_of e labels (c + j) (n + j)) → Among x (run e labels c n k)
  unfolding run
  run_in x c n zero j h i = let z : ⊥ = omega arith in absurd z
  run_in x c n (suc k) j h i = go (dec_lt j k) (λ l. run_in x c n k j l i)
    where
      go : Dec (j < k) → (j < k → Among x (run e labels c n k)) → Among x (candidate_of e labels (c + k) (n + k) ++ run e labels c n k)
      go (yes l) r = among_right x (candidate_of e labels (c + k) (n + k)) (run e labels c n k) (r l)
      go (no l) r =
          let d : j ≡ k = omega arith in
          among_left x (candidate_of e labels (c + k) (n + k)) (run e labels c n k)
          (subst (λ (m : ℕ). Among x (candidate_of e labels (c + m) (n + m))) d i)

  run_out : (x : Entry) (c n k : ℕ) → Among x (run e labels c n k) → (j : ℕ) × (j < k) × Among x (candidate_of e labels (c + j) (n + j))
  unfolding run
  run_out x c n zero i = absurd i
  run_out x c n (suc k) i = go (among_either x (candidate_of e labels (c + k) (n + k)) (run e labels c n k) i) (run_out x c n k)
    where
      go : Among x (candidate_of e labels (c + k) (n + k)) ⊎ Among x (run e labels c n k)
          → (Among x (run e labels c n k) → (j : ℕ) × (j < k) × Among x (candidate_of e labels (c + j) (n + j)))
          → (j : ℕ) × (j < suc k) × Among x (candidate_of e labels (c + j) (n + j))
      go (inl j) r = (k, omega arith, j)
      go (inr j) r = let w = r j in (w.0, (let l = w.1 in omega arith), w.2)

module _ (g : Grid) (e : List ℤ) (labels : List ℕ) where
  -- the runs of line r, by where the other cell lies
  abbrev south_west : ℕ → List Entry
  south_west r = run e labels (r * g.cols + 1) (r * g.cols + g.cols) (g.cols - 1)

  abbrev south_east : ℕ → List Entry
  south_east r = run e labels (r * g.cols) (r * g.cols + g.cols + 1) (g.cols - 1)

  abbrev south_of : ℕ → List Entry
  south_of r = run e labels (r * g.cols) (r * g.cols + g.cols) g.cols

  abbrev within : ℕ → List Entry
  within r = run e labels (r * g.cols) (r * g.cols + 1) (g.cols - 1)

  lines_in : (x : Entry) (m r : ℕ) → r < m → Among x (line g e labels r) → Among x (lines g e labels m)
  unfolding lines
  lines_in x zero r h i = let z : ⊥ = omega arith in absurd z
  lines_in x (suc m) r h i = go (dec_lt r m) (λ l. lines_in x m r l i)
    where
      go : Dec (r < m) → (r < m → Among x (lines g e labels m)) → Among x (line g e labels m ++ lines g e labels m)
      go (yes l) f = among_right x (line g e labels m) (lines g e labels m) (f l)
      go (no l) f =
          let d : r ≡ m = omega arith in
          among_left x (line g e labels m) (lines g e labels m) (subst (λ (k : ℕ). Among x (line g e labels k)) d i)

  lines_out : (x : Entry) (m : ℕ) → Among x (lines g e labels m) → (r : ℕ) × (r < m) × Among x (line g e labels r)
  unfolding lines
  lines_out x zero i = absurd i
  lines_out x (suc m) i = go (among_either x (line g e labels m) (lines g e labels m) i) (lines_out x m)
    where
      go : Among x (line g e labels m) ⊎ Among x (lines g e labels m)
          → (Among x (lines g e labels m) → (r : ℕ) × (r < m) × Among x (line g e labels r))
          → (r : ℕ) × (r < suc m) × Among x (line g e labels r)
      go (inl j) f = (m, omega arith, j)
      go (inr j) f = let w = f j in (w.0, (let l = w.1 in omega arith), w.2)

  line_within : (x : Entry) (r : ℕ) → Among x (within r) → Among x (line g e labels r)
  unfolding line
  line_within x r i = among_right x (cond (ltb (r + 1) g.rows) (between e labels g.cols (r * g.cols)) []) _ i

  line_between : (x : Entry) (r : ℕ) → r + 1 < g.rows → Among x (between e labels g.cols (r * g.cols)) → Among x (line g e labels r)
  unfolding line
  line_between x r h i =
      among_left x (cond (ltb (r + 1) g.rows) (between e labels g.cols (r * g.cols)) []) _ (rw (lt-ltb (r + 1) g.rows h) i)

  line_out : (x : Entry) (r : ℕ)
      → Among x (line g e labels r)
      → ((r + 1 < g.rows) × Among x (between e labels g.cols (r * g.cols))) ⊎ Among x (within r)
  unfolding line
  line_out x r i = go (among_either x (cond (ltb (r + 1) g.rows) (between e labels g.cols (r * g.cols)) []) _ i)
    where
      last : (t : Bool) → ltb (r + 1) g.rows ≡ t → Among x (cond t (between e labels g.cols (r * g.cols)) []) →
          (r + 1 < g.rows) × Among x (between e labels g.cols (r * g.cols))
      last true d j = (ltb-true (r + 1) g.rows d, j)
      last false d j = absurd j

      go : Among x (cond (ltb (r + 1) g.rows) (between e labels g.cols (r * g.cols)) []) ⊎ Among x (within r)
          → ((r + 1 < g.rows) × Among x (between e labels g.cols (r * g.cols))) ⊎ Among x (within r)
      go (inl j) = inl (last (ltb (r + 1) g.rows) refl j)
      go (inr j) = inr j

  -- every two cells that touch are met
  at_cells : (x : Entry) (c n d m : ℕ) → c ≡ d → n ≡ m → Among x (candidate_of e labels c n) → Among x (candidate_of e labels d m)
  at_cells x c n d m p q i =
      subst (λ (k : ℕ). Among x (candidate_of e labels k m)) p (subst (λ (k : ℕ). Among x (candidate_of e labels c k)) q i)

  later_in : (x : Entry) (c n : ℕ) → Later g c n → Among x (candidate_of e labels c n) → Among x (lines g e labels g.rows)
  unfolding between
  later_in x c n (east r q h k p d) i =
      lines_in x g.rows r h
      (line_within x r (run_in e labels x (r * g.cols) (r * g.cols + 1) (g.cols - 1) q (omega arith) (at_cells x c n _ _ p d i)))
  later_in x c n (south_west_lem r q h k p d) i =
      lines_in x g.rows r (omega arith)
      (line_between x r h
      (among_left x (south_west r ++ south_east r) _
      (among_left x (south_west r) _
      (run_in e labels x (r * g.cols + 1) (r * g.cols + g.cols) (g.cols - 1) q (omega arith) (at_cells x c n _ _ p d i)))))
  later_in x c n (south_east_lem r q h k p d) i =
      lines_in x g.rows r (omega arith)
      (line_between x r h
      (among_left x (south_west r ++ south_east r) _
      (among_right x (south_west r) _
      (run_in e labels x (r * g.cols) (r * g.cols + g.cols + 1) (g.cols - 1) q (omega arith) (at_cells x c n _ _ p d i)))))
  later_in x c n (south r q h k p d) i =
      lines_in x g.rows r (omega arith)
      (line_between x r h
      (among_right x (south_west r ++ south_east r) _
      (run_in e labels x (r * g.cols) (r * g.cols + g.cols) g.cols q k (at_cells x c n _ _ p d i))))

  -- and no others
  Met : Entry → Type 0
  Met x = (c : ℕ) × (n : ℕ) × Later g c n × Among x (candidate_of e labels c n)

  later_out : (x : Entry) → Among x (lines g e labels g.rows) → Met x
  unfolding between Met
  later_out x i = of_line (lines_out x g.rows i)
    where
      of_east : (r : ℕ) → r < g.rows →
          (j : ℕ) × (j < g.cols - 1) × Among x (candidate_of e labels (r * g.cols + j) (r * g.cols + 1 + j)) → Met x
      of_east r h w = (_, _, east r w.0 h (let l = w.1 in omega arith) refl refl, w.2)

      of_three : (r : ℕ) → r + 1 < g.rows
          → (Among x (south_west r) ⊎ Among x (south_east r))
          ⊎ Among x (south_of r)
          → Met x
      of_three r h (inl (inl j)) =
          let w = run_out e labels x (r * g.cols + 1) (r * g.cols + g.cols) (g.cols - 1) j in
          (_, _, south_west_lem r w.0 h (let l = w.1 in omega arith) refl refl, w.2)
      of_three r h (inl (inr j)) =
          let w = run_out e labels x (r * g.cols) (r * g.cols + g.cols + 1) (g.cols - 1) j in
          (_, _, south_east_lem r w.0 h (let l = w.1 in omega arith) refl refl, w.2)
      of_three r h (inr j) =
          let w = run_out e labels x (r * g.cols) (r * g.cols + g.cols) g.cols j in (_, _, south r w.0 h w.1 refl refl, w.2)

      three : (r : ℕ) → Among x (between e labels g.cols (r * g.cols))
          → (Among x (south_west r) ⊎ Among x (south_east r))
          ⊎ Among x (south_of r)
      three r j =
          ⊎_elim (λ k. inl (among_either x (south_west r) (south_east r) k)) (λ k. inr k) (among_either x (south_west r ++ south_east r) _ j)

      of_line : (r : ℕ) × (r < g.rows) × Among x (line g e labels r) → Met x
      of_line w =
          ⊎_elim (λ v. of_three w.0 v.0 (three w.0 v.1)) (λ v. of_east w.0 w.1 (run_out e labels x _ _ _ v))
          (line_out x w.0 w.2)

  candidate_data : (x : Entry) (c n : ℕ) → Among x (candidate_of e labels c n) → is_data e n ≡ true
  unfolding candidate_of
  candidate_data x c n i = go (is_data e c) (is_data e n) (eqb (get_or labels c 0) (get_or labels n 0)) i
    where
      go : (t u v : Bool) → Among x (cond (t && u && not v) (candidate e labels c n ∷ []) []) → u ≡ true
      go true true v i = refl
      go true false v i = absurd i
      go false true v i = refl
      go false false v i = absurd i

  module _ (long : length e ≡ size g) where
    pub scan_all : (x : Entry) → Among x (candidates g e labels) → Among x (lines g e labels g.rows)
    unfolding candidates candidates_at candidate_of
    scan_all x i =
        let w = join_out x (size g) (λ c. join_below 8 (candidates_at g e labels c)) i in
        let v = join_out x 8 (candidates_at g e labels w.0) w.2 in
        go w.0 v.0
        (touch_later g w.0 w.1 v.0 v.1
        (on_sheet g e long (neighbour g w.0 v.0) (candidate_data x w.0 (neighbour g w.0 v.0) v.2))) v.2
      where
        go : (c p : ℕ) → Later g c (neighbour g c p) ⊎ Later g (neighbour g c p) c → Among x (candidate_of e labels c (neighbour g c p)) →
            Among x (lines g e labels g.rows)
        go c p (inl l) j = later_in x c (neighbour g c p) l j
        go c p (inr l) j = later_in x (neighbour g c p) c l (subst (Among x) (candidate_of_same e labels c (neighbour g c p)) j)

    pub scan_only : (x : Entry) → Among x (lines g e labels g.rows) → Among x (candidates g e labels)
    unfolding candidates candidates_at candidate_of Met
    scan_only x i =
        let w = later_out x i in
        let t = later_touches g w.0 w.1 w.2 in
        join_in x (size g) (λ c. join_below 8 (candidates_at g e labels c)) w.0 t.0
        (join_in x 8 (candidates_at g e labels w.0) t.1.0 t.1.1
        (subst (λ (n : ℕ). Among x (candidate_of e labels w.0 n)) (sym t.1.2) w.3))

    -- the entries are those of the scan's candidates
    pub whole_scan : AllFit (lines g e labels g.rows) → Whole (lines g e labels g.rows) (pour_points g e labels)
    unfolding pour_points
    whole_scan f =
        whole_same (candidates g e labels) (lines g e labels g.rows) _ scan_all scan_only
        (whole (candidates g e labels) (λ z i. f z (scan_all z i)))
