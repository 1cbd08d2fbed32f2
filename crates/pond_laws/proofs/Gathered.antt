-- The steps of the scan that gathers the columns: nothing is gathered yet, a cell of no pond, a cell of the pond k + 1. And the bounds of
-- what is gathered.
use mathlib.Core.Path.{◌≡◌, refl, sym, ◌∙◌, ap, subst}
use mathlib.Core.Bool.{Bool, true, false, cond}
use mathlib.Core.List.{List}
use Prim.Native.Nat.{ℕ, ◌+◌, ◌^◌, ◌≤◌, ◌<◌}
use native.Mathlib.Omega.{arith}
use native.Mathlib.Decide.{ℕ_discrete}
use native.Mathlib.Numerals.{add-one}
use lib.Dec.{eqb}
use lib.ListN.{length, get_or, set, length-set}
use lib.Seq.{get_or-set_same, get_or-set_other}
use lib.IntN.{ℤ, pos}
use borrow.Author.Tests.{eq-eqb, ne_eqb}
use Rattle.grid.specs.declared.Grid.{Grid}
use Rattle.grid.specs.Below.{sum_below, count_below}
use Rattle.grid.specs.Sheet.{size, void, at, SixteenBits}
use Rattle.grid.specs.Fill.{filled}
use Rattle.grid.specs.Ponds.{depth, ponds}
use Rattle.grid_laws.proofs.Tests.{cond_true, cond_false}
use Rattle.grid_laws.proofs.Below.{sum_suc, sum_bound, count_≤}
use Rattle.pond_laws.specs.Gathered.{Column, Gathered}
use Rattle.pond_laws.proofs.Depth.{depth_small}
use Rattle.pond_laws.proofs.Level.{same_number}

-- ---- one column
module _ {A : Type 0} (d : A) (count : ℕ) where
  pub column_same : (old : List A) → Column d count old old
  column_same old = record { same_length = refl; past = λ j h. refl }

  pub column_set : {old new : List A} (k : ℕ) (v : A) → k < count → Column d count old new → Column d count old (set new k v)
  column_set {old} {new} k v h C =
      record {
        same_length = length-set new k v ∙ C.same_length;
        past = λ j l. get_or-set_other new k j v d (λ q. omega arith) ∙ C.past j l;
      }

-- v added up over those of the first c cells that have the number k + 1: the cells with v = 1, the volume with v the depth
module _ (l : List ℕ) (v : ℕ → ℕ) where
  abbrev sum_to : ℕ → ℕ → ℕ
  sum_to c k = sum_below c (λ d. cond (eqb (get_or l d 0) (k + 1)) (v d) 0)

  sum_one : (c k : ℕ) → get_or l c 0 ≡ k + 1 → sum_to (c + 1) k ≡ sum_to c k + v c
  sum_one c k q =
      rw (add-one c) (sum_suc c (λ d. cond (eqb (get_or l d 0) (k + 1)) (v d) 0)
      ∙ ap (λ (x : ℕ). sum_to c k + x) (cond_true (v c) 0 (eq-eqb (get_or l c 0) (k + 1) q)))

  sum_still : (c k : ℕ) → (get_or l c 0 ≡ k + 1 → ⊥) → sum_to (c + 1) k ≡ sum_to c k
  sum_still c k n =
      rw (add-one c) (sum_suc c (λ d. cond (eqb (get_or l d 0) (k + 1)) (v d) 0)
      ∙ ap (λ (x : ℕ). sum_to c k + x) (cond_false (v c) 0 (ne_eqb (get_or l c 0) (k + 1) n)) ∙ omega arith)

  -- the cell c is added at its number
  sums_more : {count : ℕ} (sums : List ℕ) (c k : ℕ)
      → get_or l c 0 ≡ k + 1
      → k < length sums
      → ((j : ℕ) → j < count → get_or sums j 0 ≡ sum_to c j)
      → (j : ℕ)
      → j < count
      → get_or (set sums k (get_or sums k 0 + v c)) j 0 ≡ sum_to (c + 1) j
  sums_more sums c k numbered on are j h = go (ℕ_discrete j k)
    where
      go : Dec (j ≡ k) → get_or (set sums k (get_or sums k 0 + v c)) j 0 ≡ sum_to (c + 1) j
      go (yes s) =
          subst (λ (x : ℕ). get_or (set sums x (get_or sums x 0 + v c)) j 0 ≡ sum_to (c + 1) j) s
          (get_or-set_same sums j (get_or sums j 0 + v c) 0 (omega arith) ∙ ap (λ (x : ℕ). x + v c) (are j h)
          ∙ sym (sum_one c j (omega arith)))
      go (no n) =
          get_or-set_other sums k j (get_or sums k 0 + v c) 0 n ∙ are j h ∙ sym (sum_still c j (λ q. n (omega arith)))

module _ (e f : List ℤ) (l : List ℕ) (count : ℕ) where
  pub gather_none : (level : List ℤ) {cells₀ cells volume₀ volume : List ℕ} → Column 0 count cells₀ cells → Column 0 count volume₀ volume →
      ((k : ℕ) → k < count → get_or cells k 0 ≡ 0) → ((k : ℕ) → k < count → get_or volume k 0 ≡ 0) →
      Gathered e f l count 0 level level cells₀ cells volume₀ volume
  unfolding count_below sum_below
  gather_none level C D zero-cells zero-volume =
      record {
        level_column = column_same (pos 0) count level;
        cells_column = C;
        volume_column = D;
        levels = λ d k h. absurd (nothing d h);
        counts = zero-cells;
        volumes = zero-volume;
      }
    where
      nothing : (d : ℕ) → d < 0 → ⊥
      nothing d h = omega arith

module _ (e f : List ℤ) (l : List ℕ) (count : ℕ) {level₀ level : List ℤ} {cells₀ cells volume₀ volume : List ℕ} where
  pub gather_dry : (c : ℕ) → get_or l c 0 ≡ 0 → Gathered e f l count c level₀ level cells₀ cells volume₀ volume →
      Gathered e f l count (c + 1) level₀ level cells₀ cells volume₀ volume
  unfolding count_below
  gather_dry c z G =
      record {
        level_column = G.level_column;
        cells_column = G.cells_column;
        volume_column = G.volume_column;
        levels = λ d k h q. G.levels d k (before d k h q) q;
        counts = λ k h. G.counts k h ∙ sym (sum_still l (λ d. 1) c k (λ q. omega arith));
        volumes = λ k h. G.volumes k h ∙ sym (sum_still l (depth e f) c k (λ q. omega arith));
      }
    where
      before : (d k : ℕ) → d < c + 1 → get_or l d 0 ≡ k + 1 → d < c
      before d k h q = go (ℕ_discrete d c)
        where
          go : Dec (d ≡ c) → d < c
          go (yes s) = let y : get_or l d 0 ≡ 0 = ap (λ (x : ℕ). get_or l x 0) s ∙ z in let w : ⊥ = omega arith in absurd w
          go (no n) = omega arith

  pub cells_bound : (c k : ℕ) → k < count → Gathered e f l count c level₀ level cells₀ cells volume₀ volume → get_or cells k 0 ≤ c
  cells_bound c k h G = let a = G.counts k h in let b = count_≤ c (λ d. eqb (get_or l d 0) (k + 1)) in omega arith

module _ (g : Grid) (e : List ℤ) (long : length e ≡ size g) (range : SixteenBits e) where
  abbrev f : List ℤ
  f = filled g e

  abbrev l : List ℕ
  l = ponds g e

  module _ (count : ℕ) {level₀ level : List ℤ} {cells₀ cells volume₀ volume : List ℕ} (c k : ℕ) (numbered : get_or (ponds g e) c 0 ≡ k + 1)
      (few : k < count) (in-level : k < length level) (in_cells : k < length cells) (in-volume : k < length volume)
      (G : Gathered e (filled g e) (ponds g e) count c level₀ level cells₀ cells volume₀ volume) where
    other : (j : ℕ) → (j ≡ k → ⊥) → get_or l c 0 ≡ j + 1 → ⊥
    other j n q = n (omega arith)

    levels : (d j : ℕ) → d < c + 1 → get_or l d 0 ≡ j + 1 → Dec (j ≡ k) → Dec (d ≡ c) → at (set level k (at f c)) j ≡ at f d
    levels d j h q (yes s) b =
        subst (λ (x : ℕ). at (set level k (at f c)) x ≡ at f d) (sym s)
        (get_or-set_same level k (at f c) void in-level
        ∙ same_number g e long range c d k numbered (q ∙ ap (λ (x : ℕ). x + 1) s))
    levels d j h q (no n) (yes s) = absurd (other j n (ap (λ (x : ℕ). get_or l x 0) (sym s) ∙ q))
    levels d j h q (no n) (no m) = get_or-set_other level k j (at f c) void n ∙ G.levels d j (before m h) q
      where
        before : (d ≡ c → ⊥) → d < c + 1 → d < c
        before m h = omega arith

    pub gather_wet : Gathered e (filled g e) (ponds g e) count (c + 1) level₀ (set level k (at (filled g e) c)) cells₀
        (set cells k (get_or cells k 0 + 1)) volume₀ (set volume k (get_or volume k 0 + depth e (filled g e) c))
    unfolding count_below
    gather_wet =
        record {
          level_column = column_set (pos 0) count k (at f c) few G.level_column;
          cells_column = column_set 0 count k (get_or cells k 0 + 1) few G.cells_column;
          volume_column = column_set 0 count k (get_or volume k 0 + depth e f c) few G.volume_column;
          levels = λ d j h q. levels d j h q (ℕ_discrete j k) (ℕ_discrete d c);
          counts = sums_more l (λ d. 1) cells c k numbered in_cells G.counts;
          volumes = sums_more l (depth e f) volume c k numbered in-volume G.volumes;
        }

  pub volume_bound : (count : ℕ) {level₀ level : List ℤ} {cells₀ cells volume₀ volume : List ℕ} (c k : ℕ) →
      size g < 2 ^ 24 → c < size g → k < count →
      Gathered e (filled g e) (ponds g e) count c level₀ level cells₀ cells volume₀ volume → get_or volume k 0 + 65536 < 2 ^ 41
  volume_bound count c k small h few G =
      let a = G.volumes k few in
      let b = sum_bound c 65535 (λ d. cond (eqb (get_or l d 0) (k + 1)) (depth e f d) 0) part in
      omega arith
    where
      part : (d : ℕ) → d < c → cond (eqb (get_or l d 0) (k + 1)) (depth e f d) 0 ≤ 65535
      part d h = go (eqb (get_or l d 0) (k + 1))
        where
          go : (t : Bool) → cond t (depth e f d) 0 ≤ 65535
          go true = let s = depth_small g e long range d in omega arith
          go false = omega arith
