-- The columns are cleared, and each cell is added to the place of its pond: by its mark and its word the columns go on as pond_laws says.
use mathlib.Core.Path.{◌≡◌, sym, ◌∙◌, ap, ap₂}
use mathlib.Core.Logic.{inl, inr, ⊎_elim}
use mathlib.Core.List.{List}
use Prim.Native.Nat.{ℕ, ◌+◌, ◌-◌, ◌/◌, ◌%◌, ◌≤◌, ◌<◌}
use native.Mathlib.Omega.{arith}
use native.Mathlib.Decide.{ℕ_discrete}
use lib.ListN.{length, get_or, set}
use lib.Seq.{get_or-set_same, get_or-set_other, ext_get_or}
use lib.IntN.{ℤ}
use Rattle.grid.specs.declared.Grid.{Grid}
use Rattle.grid.specs.Sheet.{size}
use Rattle.grid.specs.Fill.{filled}
use Rattle.grid.specs.Ponds.{ponds, pond_count, depth}
use Rattle.fill.proofs.Words.{words_key, words_filled, words_level}
use Rattle.join_laws.proofs.Search.{at_part}
use Rattle.pond_laws.specs.Numbered.{marks_to}
use Rattle.pond_laws.specs.Gathered.{Column, Gathered}
use Rattle.pond_laws.proofs.Numbered.{ponds_all, length_ponds, last_marks, last_kinds, last_≤}
use Rattle.pond_laws.proofs.Depth.{key_≤_filled, depth_by_keys}
use Rattle.pond_laws.proofs.Gathered.{column_same, gather_none, gather_dry, gather_wet, cells_bound, volume_bound}
use Rattle.pond_numbers.specs.State.{Sizes, Numbered}
use Rattle.pond_columns.specs.State.{Cleared, Added, HasRoom, OneLength}

-- ---- clearing

pub one_cleared : {count : ℕ} {level : List ℤ} {cells₀ cells volume₀ volume : List ℕ} → OneLength level cells₀ volume₀ →
    Cleared count cells₀ cells → Cleared count volume₀ volume → OneLength level cells volume
one_cleared O C D = record { cells_long = C.column.same_length ∙ O.cells_long; volume_long = D.column.same_length ∙ O.volume_long }

column_on : {A : Type 0} (d : A) (count : ℕ) {a b c : List A} → Column d count a b → Column d count b c → Column d count a c
column_on d count p q = record { same_length = q.same_length ∙ p.same_length; past = λ j h. q.past j h ∙ p.past j h }

-- gathered into cleared columns is gathered into the columns as they were
pub gathered_from : (e f : List ℤ) (l : List ℕ) (count n : ℕ) {level₀ level : List ℤ}
    {cells₀ cells₁ cells volume₀ volume₁ volume : List ℕ} →
    Cleared count cells₀ cells₁ → Cleared count volume₀ volume₁ → Gathered e f l count n level₀ level cells₁ cells volume₁ volume →
    Gathered e f l count n level₀ level cells₀ cells volume₀ volume
gathered_from e f l count n C D G =
    record {
      level_column = G.level_column;
      cells_column = column_on 0 count C.column G.cells_column;
      volume_column = column_on 0 count D.column G.volume_column;
      levels = G.levels;
      counts = G.counts;
      volumes = G.volumes;
    }

-- ---- the numbers

-- the first c pond numbers are written
abbrev pub WrittenTo : Grid → List ℤ → List ℕ → ℕ → Type 0
WrittenTo g e p c = (d : ℕ) → d < c → get_or p d 0 ≡ get_or (ponds g e) d 0

pub write_more : (g : Grid) (e : List ℤ) (p : List ℕ) (c v : ℕ) → c < length p → v ≡ get_or (ponds g e) c 0 → WrittenTo g e p c →
    WrittenTo g e (set p c v) (c + 1)
write_more g e p c v h q W d l = go (ℕ_discrete d c)
  where
    go : Dec (d ≡ c) → get_or (set p c v) d 0 ≡ get_or (ponds g e) d 0
    go (yes e) = rw e (get_or-set_same p c v 0 h ∙ q)
    go (no f) = get_or-set_other p c d v 0 f ∙ W d (let n = f in omega arith)

pub written_all : (g : Grid) (e : List ℤ) (p : List ℕ) → length p ≡ size g → WrittenTo g e p (size g) → p ≡ ponds g e
written_all g e p l W = ext_get_or 0 p (ponds g e) (l ∙ sym (length_ponds g e)) (λ d h. W d (omega arith))

-- ---- the columns, at the cell c

module _ (g : Grid) (e : List ℤ) (w : List ℕ) (count : ℕ) (Z : Sizes g e (length w)) (N : Numbered g e w (size g) count) where
  pub count_is : count ≡ pond_count g e
  count_is = N.counted ∙ ponds_all g e

  pub gather_first : (level : List ℤ) (cells volume : List ℕ) → ((k : ℕ) → k < count → get_or cells k 0 ≡ 0) →
      ((k : ℕ) → k < count → get_or volume k 0 ≡ 0) →
      Gathered e (filled g e) (ponds g e) (pond_count g e) 0 level level cells cells volume volume
  gather_first level cells volume a b =
      let q = count_is in
      gather_none e (filled g e) (ponds g e) (pond_count g e) level (column_same 0 (pond_count g e) cells)
      (column_same 0 (pond_count g e) volume)
      (λ k h. a k (omega arith)) (λ k h. b k (omega arith))

  module _ (c : ℕ) (on : c < size g) where
    abbrev mark : ℕ
    mark = get_or w (size g + c) 0

    mark_is : mark ≡ get_or (marks_to g e (filled g e) (size g)) c 0
    mark_is = sym (at_part (size g) (size g) w c on) ∙ ap (λ (l : List ℕ). get_or l c 0) N.marks

    pub number_is : mark - 1 ≡ get_or (ponds g e) c 0
    number_is = ap (λ (m : ℕ). m - 1) mark_is ∙ sym (last_marks g e Z.long c on)

    pond_is : 2 ≤ mark → get_or (ponds g e) c 0 ≡ (mark - 2) + 1
    pond_is h = let q = number_is in omega arith

    within : 2 ≤ mark → mark - 2 < pond_count g e
    within h = let q = mark_is in let l = last_≤ g e Z.long c on in omega arith

    depth_is : get_or w c 0 / 65536 - get_or w c 0 % 65536 ≡ depth e (filled g e) c
    depth_is =
        ap₂ ◌-◌ (words_filled g e w Z.long N.range N.words c on) (words_key g e w Z.long N.range N.words c on)
        ∙ sym (depth_by_keys g e Z.long N.range c)

    module _ {level₀ level : List ℤ} {cells₀ cells volume₀ volume : List ℕ}
        (G : Gathered e (filled g e) (ponds g e) (pond_count g e) c level₀ level cells₀ cells volume₀ volume) (room : count ≤ length level₀)
        (O : OneLength level₀ cells₀ volume₀) where
      level_in : 2 ≤ mark → mark - 2 < length level
      level_in h = let q = count_is in let k = within h in let l = G.level_column.same_length in omega arith

      cells_in : 2 ≤ mark → mark - 2 < length cells
      cells_in h =
          let q = count_is in let k = within h in let l = G.cells_column.same_length in let o = O.cells_long in omega arith

      volume_in : 2 ≤ mark → mark - 2 < length volume
      volume_in h =
          let q = count_is in let k = within h in let l = G.volume_column.same_length in let o = O.volume_long in omega arith

      pub fits : 2 ≤ mark → HasRoom (mark - 2) (get_or w c 0) level cells volume
      fits h =
          let few = Z.few in
          let a = words_key g e w Z.long N.range N.words c on in
          let b = words_filled g e w Z.long N.range N.words c on in
          let k = key_≤_filled g e Z.long N.range c in
          let n = cells_bound e (filled g e) (ponds g e) (pond_count g e) c (mark - 2) (within h) G in
          let v = volume_bound g e Z.long N.range (pond_count g e) c (mark - 2) Z.few on (within h) G in
          record {
            level_in = level_in h;
            cells_in = cells_in h;
            volume_in = volume_in h;
            above = omega arith;
            cells_fit = omega arith;
            volume_fit = omega arith;
          }

      pub added : {level₁ : List ℤ} {cells₁ volume₁ : List ℕ} → Added mark (get_or w c 0) level level₁ cells cells₁ volume volume₁ →
          Gathered e (filled g e) (ponds g e) (pond_count g e) (c + 1) level₀ level₁ cells₀ cells₁ volume₀ volume₁
      added (inl (h, p, q, r)) = rw p (rw q (rw r (gather_dry e (filled g e) (ponds g e) (pond_count g e) c dry G)))
        where
          dry : get_or (ponds g e) c 0 ≡ 0
          dry =
              let a = number_is in
              let m = mark_is in
              ⊎_elim (λ z. omega arith) (λ z. let y : ⊥ = omega arith in absurd y) (last_kinds g e Z.long c on)
      added (inr (h, P)) =
          rw P.level (rw P.cells (rw P.volume (rw depth_is (rw (words_level g e w Z.long N.range N.words c on)
          (gather_wet g e Z.long N.range (pond_count g e) c (mark - 2) (pond_is h) (within h) (level_in h) (cells_in h)
          (volume_in h) G)))))
