-- The look for cells of level 1, one cell after the other.
use mathlib.Core.Path.{◌≡◌, refl, sym, ◌∙◌, ap}
use mathlib.Core.Bool.{Bool, true, false, cond}
use mathlib.Core.Logic.{⊎_elim}
use mathlib.Core.List.{List}
use Prim.Native.Nat.{ℕ, suc, ◌+◌, ◌≤◌, ◌<◌}
use native.Mathlib.Omega.{arith}
use lib.Dec.{eqb}
use lib.ListN.{length, get_or, take, set}
use lib.Seq.{get_or-take}
use lib.IntN.{ℤ}
use borrow.Author.Tests.{eq-eqb, eqb-true}
use Rattle.grid.specs.declared.Grid.{Grid}
use Rattle.grid.specs.Below.{any_below}
use Rattle.grid.specs.Sheet.{size, is_data, neighbour}
use Rattle.grid.specs.Directions.{is_equal, is_level_zero}
use Rattle.grid_laws.proofs.Tests.{test, true_false, not_true_false, cond_true, cond_false, and_true, and_left, and_right}
use Rattle.grid_laws.proofs.Below.{some_of_any, no_of_any}
use Rattle.flow_laws.specs.Search.{Equal}
use Rattle.flow_laws.specs.Words.{void_word, word_level, level_in, queue_in, first_word, Coded, VoidsMarked, Seeded, Searching, Joining}
use Rattle.flow_laws.proofs.Search.{last?, looked, search_none}
use Rattle.flow_laws.proofs.Equals.{equal_on, equal_back}
use Rattle.flow_laws.proofs.Leads.{zero_code_range}
use Rattle.flow_laws.proofs.Words.{level_none, level_void, level_one, level_more, level_here, word_other, queue_first, queue_last}
use Rattle.flow_laws.proofs.Words.{first_void, first_zero, first_flat, blank_data, data_level, marked, searching_room}
use Rattle.levels.specs.Beside.{zero_beside}

-- before the first cell
module _ (g : Grid) (e : List ℤ) (half : ℕ) (work : List ℕ) (S : Seeded g e work) where
  word_at : (c : ℕ) → c < size g → get_or (take (size g) work) c 0 ≡ first_word g e c
  word_at c h = get_or-take (size g) work c 0 h ∙ S c h

  coded : Coded g e work
  coded c h z = word_at c h ∙ first_zero g e c z

  void_word_lem : (c : ℕ) → c < size g → is_data e c ≡ false → get_or (take (size g) work) c 0 ≡ void_word
  void_word_lem c h v = word_at c h ∙ first_void g e c v

  flat_word : (c : ℕ) → c < size g → is_data e c ≡ true → is_level_zero g e c ≡ false → get_or (take (size g) work) c 0 ≡ 0
  flat_word c h d z = word_at c h ∙ first_flat g e c d z

  voids : VoidsMarked g e work
  voids c h = (void_word_lem c h, λ w. not_true_false (is_data e c) (λ d. ⊎_elim (coded_not w) (flat_not w d) (test (is_level_zero g e c))))
    where
      coded_not : get_or (take (size g) work) c 0 ≡ void_word → is_level_zero g e c ≡ true → ⊥
      coded_not w z = let q = coded c h z in let r = (zero_code_range g e c z).1 in omega arith

      flat_not : get_or (take (size g) work) c 0 ≡ void_word → is_data e c ≡ true → is_level_zero g e c ≡ false → ⊥
      flat_not w d z = let q = flat_word c h d z in omega arith

  level_at : (c : ℕ) → c < size g → level_in (size g) work c ≡ cond (is_level_zero g e c) 1 0
  level_at c h = ⊎_elim yes' no' (test (is_level_zero g e c))
    where
      yes' : is_level_zero g e c ≡ true → level_in (size g) work c ≡ cond (is_level_zero g e c) 1 0
      yes' z = let q = coded c h z in let r = zero_code_range g e c z in level_one _ (rw q r.0) (rw q r.1) ∙ sym (cond_true 1 0 z)

      no' : is_level_zero g e c ≡ false → level_in (size g) work c ≡ cond (is_level_zero g e c) 1 0
      no' z =
          ⊎_elim (λ d. level_none _ (flat_word c h d z)) (λ v. level_void _ (void_word_lem c h v)) (test (is_data e c))
          ∙ sym (cond_false 1 0 z)

  low : (c : ℕ) → c < size g → level_in (size g) work c ≤ 1
  low c h = let q = level_at c h in omega (arith, one (is_level_zero g e c))
    where
      one : (b : Bool) → cond b 1 0 ≤ 1
      one true = omega arith
      one false = omega arith

  pub joining_none : Joining g e half work 0 0
  joining_none =
      record {
        searching = record { search = search_none level_at; coded = coded; voids = voids };
        twos = λ i h. let z : ⊥ = omega arith in absurd z;
        ahead = λ c h k. low c k;
      }

module _ {g : Grid} {e : List ℤ} (len : length e ≡ size g) {half : ℕ} {work : List ℕ} {cell tail : ℕ} (on : cell < size g)
    (J : Joining g e half work cell tail) where
  passed : ((d : ℕ) → Equal g e d cell → level_in (size g) work d ≡ 1 → (0 < level_in (size g) work cell) × (level_in (size g) work cell ≤ 2))
      → Joining g e half work (cell + 1) tail
  passed all =
      record {
        searching =
            record {
              search = looked (equal_back g e len) (equal_on g e len) J.searching.search all;
              coded = J.searching.coded;
              voids = J.searching.voids;
            };
        twos = J.twos;
        ahead = λ c h k. J.ahead c (omega arith) k;
      }

  -- the cell has a word: it has level 0, or it is a void, and then no equal neighbour
  pub joining_has : (get_or work cell 0 ≡ 0 → ⊥) → Joining g e half work (cell + 1) tail
  joining_has f =
      passed
      (λ d b q.
      let l = J.ahead cell (omega arith) on in
      let w : 0 < get_or work cell 0 = omega (arith, f) in
      (data_level g e len work J.searching.voids cell (equal_back g e len d cell b).from_data w, omega arith))

  -- it has none: it is a data cell
  pub joining_data : get_or work cell 0 ≡ 0 → is_data e cell ≡ true
  joining_data none = blank_data g e len work J.searching.voids cell on none

  -- it lies beside no equal cell of level 0
  pub joining_alone : any_below 8 (zero_beside g e work cell) ≡ false → Joining g e half work (cell + 1) tail
  unfolding zero_beside
  joining_alone none =
      passed
      (λ d b q.
      let k = equal_back g e len d cell b in
      true_false (here k.position k.equal (ap (level_in (size g) work) k.there ∙ q)) (no_of_any 8 (zero_beside g e work cell) none k.position k.eight))
    where
      here : (p : ℕ) → is_equal g e cell p ≡ true → level_in (size g) work (neighbour g cell p) ≡ 1 → zero_beside g e work cell p ≡ true
      here p t l = and_true t (eq-eqb _ 1 l)

  pub joining_room : get_or work cell 0 ≡ 0 → tail < size g
  joining_room z = searching_room g e len half work J.searching cell on z

  -- it lies beside one, at p
  module _ (hn : size g ≤ half) (hl : half + size g ≤ length work) (none : get_or work cell 0 ≡ 0) (p : ℕ)
      (hp : p < 8) (same : is_equal g e cell p ≡ true) (one : level_in (size g) work (neighbour g cell p) ≡ 1) where
    -- the work buffer after it
    abbrev after : List ℕ
    after = set (set work cell 257) (half + tail) cell

    two : word_level 257 ≡ 2
    two = level_more 257 (omega arith)

    searching' : Searching g e half after cell 0 (tail + 1)
    searching' =
        marked g e len half work J.searching hn hl cell (neighbour g cell p) 257 on none
        (record { from_data = joining_data none; position = p; eight = hp; there = refl; equal = same })
        (omega arith) (two ∙ ap suc (sym one))
        (λ j h. let q = J.twos j h in omega arith)
        (λ i h k. let q = J.twos i k in omega arith)

    here : level_in (size g) after cell ≡ 2
    here = level_here (size g) half tail cell 257 work hn hl on (joining_room none) ∙ two

    other : (y : ℕ) → (y ≡ cell → ⊥) → level_in (size g) after y ≡ level_in (size g) work y
    other y f = ap word_level (word_other (size g) half tail cell 257 work hn hl on (joining_room none) y f)

    twos' : (i : ℕ) → i < tail + 1 → level_in (size g) after (queue_in half after i) ≡ 2
    twos' i h = ⊎_elim before last (last? tail i h)
      where
        before : i < tail → level_in (size g) after (queue_in half after i) ≡ 2
        before l =
            let q = queue_first (size g) half tail cell 257 work hn hl on (joining_room none) i l in
            let t = J.twos i l in
            let z : level_in (size g) work cell ≡ 0 = level_none _ (get_or-take (size g) work cell 0 on ∙ none) in
            ap (level_in (size g) after) q
            ∙ other (queue_in half work i) (λ r. let a = ap (level_in (size g) work) r in omega arith)
            ∙ t

        last : i ≡ tail → level_in (size g) after (queue_in half after i) ≡ 2
        last q = rw q (ap (level_in (size g) after) (queue_last (size g) half tail cell 257 work hn hl on (joining_room none)) ∙ here)

    joining_marked : Joining g e half after (cell + 1) (tail + 1)
    joining_marked =
        record {
          searching =
              record {
                search =
                    looked (equal_back g e len) (equal_on g e len) searching'.search
                    (λ x b q. let h = here in (omega arith, omega arith));
                coded = searching'.coded;
                voids = searching'.voids;
              };
          twos = twos';
          ahead = λ c h k. let q = other c (λ r. omega arith) in let a = J.ahead c (omega arith) k in omega arith;
        }

  pub joining_next : {r : ℕ} {work' : List ℕ} → any_below 8 (zero_beside g e work cell) ≡ true
      → size g ≤ half → half + size g ≤ length work → get_or work cell 0 ≡ 0
      → r ≡ tail + 1 → work' ≡ set (set work cell 257) (half + tail) cell → Joining g e half work' (cell + 1) r
  unfolding zero_beside
  joining_next {r} t hn hl none q s =
      let w = some_of_any 8 (zero_beside g e work cell) t in
      let b = both w.0 w.2 in
      rw (q, s) (joining_marked hn hl none w.0 w.1 b.0 b.1)
    where
      both : (p : ℕ) → zero_beside g e work cell p ≡ true → (is_equal g e cell p ≡ true) × (level_in (size g) work (neighbour g cell p) ≡ 1)
      both p z =
          let same = is_equal g e cell p in
          let one = eqb (level_in (size g) work (neighbour g cell p)) 1 in
          (and_left same one z, eqb-true _ 1 (and_right same one z))
