-- Scanned by rising cell number, the first cell of a pond that is met is its lowest. All cells of its pond then have mark 1 and no other
-- cell has the mark that is next, so that joining from it gives that mark to the pond and to nothing else.
use mathlib.Core.Path.{◌≡◌, refl, sym, ◌∙◌, ap, subst}
use mathlib.Core.Bool.{Bool, true, false, cond, ◌||◌}
use mathlib.Core.Logic.{◌⊎◌, inl, inr, ⊎_elim}
use mathlib.Core.List.{List}
use Prim.Native.Nat.{ℕ, ◌+◌, ◌-◌, ◌≤◌, ◌<◌}
use native.Mathlib.Omega.{arith}
use native.Mathlib.Decide.{ℕ_discrete, dec_lt}
use native.Mathlib.Numerals.{add-one}
use lib.Dec.{eqb, ltb}
use lib.ListN.{length, get_or, set, length-set, get_or-eq_default}
use lib.Seq.{get_or-set_same, get_or-set_other}
use lib.IntN.{ℤ}
use borrow.Author.Tests.{eqb-true, eq-eqb, ne_eqb, lt-ltb, le-ltb}
use Rattle.grid.specs.declared.Grid.{Grid}
use Rattle.grid.specs.Below.{table, count_below}
use Rattle.grid.specs.Sheet.{size}
use Rattle.grid.specs.Fill.{filled}
use Rattle.grid.specs.Joined.{joined}
use Rattle.grid.specs.Ponds.{is_wet, pond_of, lowest_cell, is_lowest, ponds, pond_count}
use Rattle.grid_laws.proofs.Tests.{test, true_false, cond_true, cond_false, not_true_false, or_left, or_right, or_cases}
use Rattle.grid_laws.proofs.Below.{at_table, length_table, table_ext, count_≤, count_more, count_still, count_past, count_one}
use Rattle.join_laws.specs.Ways.{stop, step, Joins}
use Rattle.join_laws.specs.Search.{in_set, is_joined, joined_marks, Searching}
use Rattle.join_laws.proofs.Joined.{joined_way, way_joined}
use Rattle.pond_laws.specs.Numbered.{mark_to, marks_to, ponds_to}
use Rattle.pond_laws.proofs.Same.{InPond, wet_on, pond_self, pond_back, pond_wet, lowest_≤, lowest_on, lowest_in, lowest_same}
use Rattle.pond_laws.proofs.Same.{lowest_is, is_lowest_lem, dry_not_lowest}

module _ (g : Grid) (e f : List ℤ) where
  -- the number of ponds whose lowest cell is before that of d
  abbrev before : ℕ → ℕ
  before d = count_below (lowest_cell g e f d) (is_lowest g e f)

  -- ---- the mark of a cell
  pub length_marks : (c : ℕ) → length (marks_to g e f c) ≡ size g
  unfolding marks_to
  length_marks c = length_table (size g) (mark_to g e f c)

  pub mark_at_lem : (c d : ℕ) → d < size g → get_or (marks_to g e f c) d 0 ≡ mark_to g e f c d
  unfolding marks_to
  mark_at_lem c d h = at_table (size g) (mark_to g e f c) d 0 h

  pub mark_dry : (c d : ℕ) → is_wet e f d ≡ false → mark_to g e f c d ≡ 0
  unfolding mark_to
  mark_dry c d t = cond_false (cond (ltb (lowest_cell g e f d) c) (before d + 2) 1) 0 t

  pub mark_new : (c d : ℕ) → is_wet e f d ≡ true → c ≤ lowest_cell g e f d → mark_to g e f c d ≡ 1
  unfolding mark_to
  mark_new c d t h =
      cond_true (cond (ltb (lowest_cell g e f d) c) (before d + 2) 1) 0 t ∙ cond_false (before d + 2) 1 (le-ltb (lowest_cell g e f d) c h)

  pub mark_old : (c d : ℕ) → is_wet e f d ≡ true → lowest_cell g e f d < c → mark_to g e f c d ≡ before d + 2
  unfolding mark_to
  mark_old c d t h =
      cond_true (cond (ltb (lowest_cell g e f d) c) (before d + 2) 1) 0 t ∙ cond_true (before d + 2) 1 (lt-ltb (lowest_cell g e f d) c h)

  abbrev Marked : ℕ → ℕ → Type 0
  Marked c d =
      ((is_wet e f d ≡ false) × (mark_to g e f c d ≡ 0))
      ⊎ (((is_wet e f d ≡ true) × (c ≤ lowest_cell g e f d) × (mark_to g e f c d ≡ 1))
      ⊎ ((is_wet e f d ≡ true) × (lowest_cell g e f d < c) × (mark_to g e f c d ≡ before d + 2)))

  marked : (c d : ℕ) → Marked c d
  marked c d = go (test (is_wet e f d)) (dec_lt (lowest_cell g e f d) c)
    where
      go : (is_wet e f d ≡ true) ⊎ (is_wet e f d ≡ false) → Dec (lowest_cell g e f d < c) → Marked c d
      go (inr t) b = inl (t, mark_dry c d t)
      go (inl t) (yes h) = inr (inr (t, h, mark_old c d t h))
      go (inl t) (no h) = inr (inl (t, omega arith, mark_new c d t (omega arith)))

  -- a mark of 1 is that of a wet cell whose pond has no number yet
  mark_one : (c d : ℕ) → mark_to g e f c d ≡ 1 → (is_wet e f d ≡ true) × (c ≤ lowest_cell g e f d)
  mark_one c d q = go (marked c d)
    where
      go : Marked c d → (is_wet e f d ≡ true) × (c ≤ lowest_cell g e f d)
      go (inl w) = let s = w.1 in let z : ⊥ = omega arith in absurd z
      go (inr (inl w)) = (w.0, w.1)
      go (inr (inr w)) = let s = w.2 in let z : ⊥ = omega arith in absurd z

  -- the next cell changes no mark but those of its pond
  mark_still : (c d : ℕ) → (is_wet e f d ≡ true → lowest_cell g e f d ≡ c → ⊥) → mark_to g e f (c + 1) d ≡ mark_to g e f c d
  mark_still c d n = go (marked c d)
    where
      go : Marked c d → mark_to g e f (c + 1) d ≡ mark_to g e f c d
      go (inl w) = mark_dry (c + 1) d w.0 ∙ sym w.1
      go (inr (inl w)) = let s = w.1 in let r = n w.0 in mark_new (c + 1) d w.0 (omega arith) ∙ sym w.2
      go (inr (inr w)) = let s = w.1 in mark_old (c + 1) d w.0 (omega arith) ∙ sym w.2

  -- ---- the first marks
  pub first_marks : marks_to g e f 0 ≡ table (size g) (λ d. cond (is_wet e f d) 1 0)
  unfolding marks_to
  first_marks = table_ext (size g) (mark_to g e f 0) (λ d. cond (is_wet e f d) 1 0) (λ d h. go d (test (is_wet e f d)))
    where
      go : (d : ℕ) → (is_wet e f d ≡ true) ⊎ (is_wet e f d ≡ false) → mark_to g e f 0 d ≡ cond (is_wet e f d) 1 0
      go d (inl t) = mark_new 0 d t (omega arith) ∙ sym (cond_true 1 0 t)
      go d (inr t) = mark_dry 0 d t ∙ sym (cond_false 1 0 t)

  pub ponds_none : ponds_to g e f 0 ≡ 0
  unfolding ponds_to
  ponds_none = let a = count_≤ 0 (is_lowest g e f) in omega arith

  pub ponds_≤ : (c : ℕ) → ponds_to g e f c ≤ c
  unfolding ponds_to
  ponds_≤ c = count_≤ c (is_lowest g e f)

module _ (g : Grid) (e f : List ℤ) (long : length e ≡ size g) where
  before_ponds : (c d : ℕ) → is_wet e f d ≡ true → lowest_cell g e f d < c → before g e f d < ponds_to g e f c
  unfolding ponds_to
  before_ponds c d t h = count_past (lowest_cell g e f d) c (is_lowest g e f) h (lowest_is g e f long d t)

  pub mark_≤ : (c d : ℕ) → get_or (marks_to g e f c) d 0 ≤ ponds_to g e f c + 1
  mark_≤ c d = on (dec_lt d (size g))
    where
      kind : Marked g e f c d → mark_to g e f c d ≤ ponds_to g e f c + 1
      kind (inl w) = let s = w.1 in omega arith
      kind (inr (inl w)) = let s = w.2 in omega arith
      kind (inr (inr w)) = let s = w.2 in let b = before_ponds c d w.0 w.1 in omega arith

      on : Dec (d < size g) → get_or (marks_to g e f c) d 0 ≤ ponds_to g e f c + 1
      on (yes h) = rw (mark_at_lem g e f c d h) (kind (marked g e f c d))
      on (no h) =
          let q = length_marks g e f c in
          let s : get_or (marks_to g e f c) d 0 ≡ 0 = get_or-eq_default (marks_to g e f c) 0 (omega arith) in
          omega arith

  -- ---- a cell that is passed by
  module _ (c : ℕ) (h : c < size g) (other : get_or (marks_to g e f c) c 0 ≡ 1 → ⊥) where
    not_lowest : is_lowest g e f c ≡ false
    not_lowest =
        not_true_false (is_lowest g e f c)
        (λ t. let q = is_lowest_lem g e f long c t in
        ⊎_elim (λ w. other (mark_at_lem g e f c c h ∙ mark_new g e f c c w (omega arith)))
        (λ w. true_false t (dry_not_lowest g e f long c h w)) (test (is_wet e f c)))

    pub next_by : (marks_to g e f (c + 1) ≡ marks_to g e f c) × (ponds_to g e f (c + 1) ≡ ponds_to g e f c)
    unfolding marks_to ponds_to
    next_by = (
      table_ext (size g) (mark_to g e f (c + 1)) (mark_to g e f c)
          (λ d l. mark_still g e f c d
          (λ t q. true_false (subst (λ (x : ℕ). is_lowest g e f x ≡ true) q (lowest_is g e f long d t)) not_lowest)),
      rw (add-one c) (count_still c (is_lowest g e f) not_lowest),
    )

  -- ---- a cell whose pond is next: its marks, with its own set
  module _ (c : ℕ) (h : c < size g) (one : get_or (marks_to g e f c) c 0 ≡ 1) where
    abbrev value : ℕ
    value = ponds_to g e f c + 2

    abbrev l : List ℕ
    l = set (marks_to g e f c) c (ponds_to g e f c + 2)

    kind : (is_wet e f c ≡ true) × (c ≤ lowest_cell g e f c)
    kind = mark_one g e f c c (sym (mark_at_lem g e f c c h) ∙ one)

    own_lowest : lowest_cell g e f c ≡ c
    own_lowest = let a = kind.1 in let b = lowest_≤ g e f long c kind.0 in omega arith

    is_lowest_here : is_lowest g e f c ≡ true
    is_lowest_here = subst (λ (x : ℕ). is_lowest g e f x ≡ true) own_lowest (lowest_is g e f long c kind.0)

    here : get_or l c 0 ≡ value
    here = get_or-set_same (marks_to g e f c) c value 0 (let q = length_marks g e f c in omega arith)

    there : (d : ℕ) → (d ≡ c → ⊥) → get_or l d 0 ≡ get_or (marks_to g e f c) d 0
    there d n = get_or-set_other (marks_to g e f c) c d value 0 n

    only_here : (d : ℕ) → get_or l d 0 ≡ value → d ≡ c
    only_here d q = go (ℕ_discrete d c)
      where
        go : Dec (d ≡ c) → d ≡ c
        go (yes s) = s
        go (no n) = let a = there d n in let b = mark_≤ c d in let z : ⊥ = omega arith in absurd z

    set_on : (d : ℕ) → in_set value l d ≡ true → d < size g
    unfolding in_set
    set_on d t = go (dec_lt d (size g))
      where
        go : Dec (d < size g) → d < size g
        go (yes k) = k
        go (no k) =
            let q = length_marks g e f c in
            let s = length-set (marks_to g e f c) c value in
            let z : get_or l d 0 ≡ 0 = get_or-eq_default l 0 (omega arith) in
            ⊎_elim
            (λ u. let y = eqb-true (get_or l d 0) 1 u in let w : ⊥ = omega arith in absurd w)
            (λ u. let y = eqb-true (get_or l d 0) value u in let w : ⊥ = omega arith in absurd w)
            (or_cases (eqb (get_or l d 0) 1) (eqb (get_or l d 0) value) t)

    set_wet : (d : ℕ) → in_set value l d ≡ true → is_wet e f d ≡ true
    unfolding in_set
    set_wet d t =
        ⊎_elim
        (λ u. go (eqb-true (get_or l d 0) 1 u) (ℕ_discrete d c))
        (λ u. wet_here (only_here d (eqb-true (get_or l d 0) value u)))
        (or_cases (eqb (get_or l d 0) 1) (eqb (get_or l d 0) value) t)
      where
        wet_here : d ≡ c → is_wet e f d ≡ true
        wet_here q = rw q kind.0

        go : get_or l d 0 ≡ 1 → Dec (d ≡ c) → is_wet e f d ≡ true
        go u (yes q) = wet_here q
        go u (no n) = (mark_one g e f c d (sym (mark_at_lem g e f c d (set_on d t)) ∙ sym (there d n) ∙ u)).0

    pond_set : (d : ℕ) → InPond g e f c d → in_set value l d ≡ true
    unfolding in_set
    pond_set d p = go (ℕ_discrete d c)
      where
        go : Dec (d ≡ c) → (eqb (get_or l d 0) 1 || eqb (get_or l d 0) value) ≡ true
        go (yes q) = or_right (eqb (get_or l d 0) 1) (eq-eqb (get_or l d 0) value (ap (λ (x : ℕ). get_or l x 0) q ∙ here))
        go (no n) =
            let t = pond_wet g e f long c d p in
            let s = lowest_same g e f long c d p in
            let o = own_lowest in
            or_left (eqb (get_or l d 0) value)
            (eq-eqb (get_or l d 0) 1 (there d n ∙ mark_at_lem g e f c d (wet_on g e f long d t) ∙ mark_new g e f c d t (omega arith)))

    way_pond : {d : ℕ} → Joins g (is_wet e f) (eqb c) d → InPond g e f c d
    unfolding pond_of
    way_pond w = way_joined g (is_wet e f) (eqb c) (wet_on g e f long) w

    way_in : {d : ℕ} → Joins g (is_wet e f) (eqb c) d → Joins g (in_set value l) (is_joined value l) d
    unfolding is_joined
    way_in (stop {c = d} o) =
        let q = eqb-true c d o.1 in
        stop (pond_set d (way_pond (stop o)), eq-eqb (get_or l d 0) value (ap (λ (x : ℕ). get_or l x 0) (sym q) ∙ here))
    way_in (step {c = d} {n = n} b w) = step (pond_set d (way_pond (step b w)), pond_set n (way_pond w), b.2) (way_in w)

    way_out : {d : ℕ} → Joins g (in_set value l) (is_joined value l) d → Joins g (is_wet e f) (eqb c) d
    unfolding is_joined
    way_out (stop {c = d} o) =
        stop (set_wet d o.0, eq-eqb c d (sym (only_here d (eqb-true (get_or l d 0) value o.1))))
    way_out (step {c = d} {n = n} b w) = step (set_wet d b.0, set_wet n b.1, b.2) (way_out w)

    joined_pond : (d : ℕ) → get_or (joined g (in_set value l) (is_joined value l)) d false ≡ true → InPond g e f c d
    joined_pond d t = way_pond (way_out (joined_way g (in_set value l) (is_joined value l) set_on d t))

    pond_joined : (d : ℕ) → InPond g e f c d → get_or (joined g (in_set value l) (is_joined value l)) d false ≡ true
    unfolding pond_of
    pond_joined d t =
        way_joined g (in_set value l) (is_joined value l) set_on (way_in (joined_way g (is_wet e f) (eqb c) (wet_on g e f long) d t))

    mark_in : (d : ℕ) → InPond g e f c d → mark_to g e f (c + 1) d ≡ value
    unfolding ponds_to
    mark_in d p =
        let s : lowest_cell g e f d ≡ c = sym (lowest_same g e f long c d p) ∙ own_lowest in
        mark_old g e f (c + 1) d (pond_wet g e f long c d p) (omega arith) ∙ ap (λ (x : ℕ). count_below x (is_lowest g e f) + 2) s

    mark_out : (d : ℕ) → d < size g → (InPond g e f c d → ⊥) → get_or l d 0 ≡ mark_to g e f (c + 1) d
    mark_out d k n =
        there d (λ q. n (subst (InPond g e f c) (sym q) (pond_self g e f long c kind.0)))
        ∙ mark_at_lem g e f c d k
        ∙ sym (mark_still g e f c d
        (λ t q. n (pond_back g e f long d c (subst (InPond g e f d) q (lowest_in g e f long d t)))))

    pub next_pond : (joined_marks g (ponds_to g e f c + 2) (set (marks_to g e f c) c (ponds_to g e f c + 2)) ≡ marks_to g e f (c + 1))
        × (ponds_to g e f (c + 1) ≡ ponds_to g e f c + 1)
    unfolding joined_marks marks_to ponds_to
    next_pond = (
      table_ext (size g) (λ d. cond (get_or j d false) value (get_or l d 0)) (mark_to g e f (c + 1)) (λ d k. at d k (test (get_or j d false))),
      rw (add-one c) (count_more c (is_lowest g e f) is_lowest_here),
    )
      where
        j : List Bool
        j = joined g (in_set value l) (is_joined value l)

        at : (d : ℕ) → d < size g → (get_or j d false ≡ true) ⊎ (get_or j d false ≡ false) →
            cond (get_or j d false) value (get_or l d 0) ≡ mark_to g e f (c + 1) d
        at d k (inl t) = cond_true value (get_or l d 0) t ∙ sym (mark_in d (joined_pond d t))
        at d k (inr t) = cond_false value (get_or l d 0) t ∙ mark_out d k (λ p. true_false (pond_joined d p) t)

    pub pond_seeded : (q : List ℕ) → get_or q 0 0 ≡ c →
        Searching g (ponds_to g e f c + 2) (set (marks_to g e f c) c (ponds_to g e f c + 2)) q 0 1
    unfolding is_joined
    pond_seeded q s =
        record {
          queued = λ i k. queued i k;
          placed = λ d k t. (0, omega arith, s ∙ sym (only_here d t));
          spread = λ i p k. absurd (nothing i k);
          count =
              sym (count_one (size g) c (is_joined value l) h (eq-eqb (get_or l c 0) value here)
              (λ d n. ne_eqb (get_or l d 0) value (λ t. n (only_here d t))));
          order = omega arith;
        }
      where
        nothing : (i : ℕ) → i < 0 → ⊥
        nothing i k = omega arith

        queued : (i : ℕ) → i < 1 → (get_or q i 0 < size g) × (get_or l (get_or q i 0) 0 ≡ value)
        queued i k =
            let z : i ≡ 0 = omega arith in
            rw z (rw s (h, here))

-- ---- the numbers, and the marks at the end
module _ (g : Grid) (e : List ℤ) where
  abbrev f : List ℤ
  f = filled g e

  pub ponds_all : ponds_to g e (filled g e) (size g) ≡ pond_count g e
  unfolding ponds_to pond_count
  ponds_all = refl

  pub length_ponds : length (ponds g e) ≡ size g
  unfolding ponds
  length_ponds = length_table (size g) (λ c. cond (is_wet e f c) (before g e f c + 1) 0)

  -- off the sheet too
  pub number_dry : (c : ℕ) → is_wet e (filled g e) c ≡ false → get_or (ponds g e) c 0 ≡ 0
  unfolding ponds
  number_dry c t = go (dec_lt c (size g))
    where
      go : Dec (c < size g) → get_or (ponds g e) c 0 ≡ 0
      go (yes h) = at_table (size g) (λ d. cond (is_wet e f d) (before g e f d + 1) 0) c 0 h ∙ cond_false (before g e f c + 1) 0 t
      go (no h) = get_or-eq_default (ponds g e) 0 (let q = length_ponds in omega arith)

  module _ (long : length e ≡ size g) where
    pub number_wet : (c : ℕ) → is_wet e (filled g e) c ≡ true →
        get_or (ponds g e) c 0 ≡ count_below (lowest_cell g e (filled g e) c) (is_lowest g e (filled g e)) + 1
    unfolding ponds
    number_wet c t =
        at_table (size g) (λ d. cond (is_wet e f d) (before g e f d + 1) 0) c 0 (wet_on g e f long c t)
        ∙ cond_true (before g e f c + 1) 0 t

    module _ (d : ℕ) (h : d < size g) where
      last_wet : is_wet e f d ≡ true → get_or (marks_to g e f (size g)) d 0 ≡ before g e f d + 2
      last_wet t = mark_at_lem g e f (size g) d h ∙ mark_old g e f (size g) d t (lowest_on g e f long d t)

      last_dry : is_wet e f d ≡ false → get_or (marks_to g e f (size g)) d 0 ≡ 0
      last_dry t = mark_at_lem g e f (size g) d h ∙ mark_dry g e f (size g) d t

      pub last_marks : get_or (ponds g e) d 0 ≡ get_or (marks_to g e (filled g e) (size g)) d 0 - 1
      last_marks =
          ⊎_elim
          (λ t. let a = number_wet d t in let b = last_wet t in omega arith)
          (λ t. let a = number_dry d t in let b = last_dry t in omega arith)
          (test (is_wet e f d))

      pub last_kinds : (get_or (marks_to g e (filled g e) (size g)) d 0 ≡ 0) ⊎ (2 ≤ get_or (marks_to g e (filled g e) (size g)) d 0)
      last_kinds = ⊎_elim (λ t. inr (let b = last_wet t in omega arith)) (λ t. inl (last_dry t)) (test (is_wet e f d))

      pub last_≤ : get_or (marks_to g e (filled g e) (size g)) d 0 ≤ pond_count g e + 1
      last_≤ = let a = mark_≤ g e f long (size g) d in let q = ponds_all in omega arith
