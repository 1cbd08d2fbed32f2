-- What a scan adds to the columns: the fields of the next entries, taken out of their two numbers.
use mathlib.Core.Path.{◌≡◌, refl, sym, ◌∙◌, ap, subst}
use mathlib.Core.Bool.{Bool}
use mathlib.Core.List.{List, [], ◌∷◌, ◌++◌, map}
use mathlib.Core.Logic.{inl, inr}
use Prim.Native.Nat.{ℕ, zero, suc, ◌+◌, ◌-◌, ◌/◌, ◌%◌, ◌≤◌, ◌<◌}
use native.Mathlib.Nat.{div-one, mod-eq_of_lt}
use native.Mathlib.Omega.{arith}
use native.Mathlib.Decide.{dec_lt}
use lib.Arith.{digits_div, digits_mod}
use lib.ListN.{length, get_or, drop, length-map}
use borrow.Author.Tests.{le-leb, lt-leb}
use lib.IntN.{ℤ, pos}
use Rattle.grid.specs.declared.Grid.{Grid}
use Rattle.grid.specs.Sheet.{size}
use Rattle.grid.specs.declared.Counted.{Counted}
use Rattle.grid.specs.Checks.{refusal, accepted, ask}
use Rattle.grid.specs.PourPoints.{Entry, pour_points}
use Rattle.grid_laws.proofs.Lists.{overwritten}
use Rattle.cells.specs.Keys.{key_of, level_of}
use Rattle.cells.proofs.Keys.{level_key, key_small}
use Rattle.pour_laws.specs.Words.{pair_of, rank_of, Fits, Among}
use Rattle.pour_laws.specs.Batch.{capacity, Batch, Reached}
use Rattle.pour_laws.specs.Lines.{lines}
use Rattle.pour_laws.specs.Columns.{Put, ColumnTo, Between, Puts, ColumnsTo, OneLength, Written, Settled, no_room, counted}
use Rattle.pour_laws.proofs.Whole.{Whole, AllFit}
use Rattle.pour_laws.proofs.Agree.{reached_none, pair_agrees, rank_agrees, next_within, finished, reached_next}
use Rattle.pour_laws.proofs.Lines.{whole_scan}

-- ---- the fields of an entry
module _ (x : Entry) (f : Fits x) where
  smaller_small : x.smaller < 4294967296
  smaller_small = let a = f.apart in let b = f.label in omega arith

  smaller_of : x.smaller ≡ pair_of x / 4294967296 % 4294967296
  smaller_of = sym (ap (λ (z : ℕ). z % 4294967296) (digits_div x.smaller f.label) ∙ mod-eq_of_lt smaller_small)

  larger_of : x.larger ≡ pair_of x / 1 % 4294967296
  larger_of = sym (ap (λ (z : ℕ). z % 4294967296) (div-one (pair_of x)) ∙ digits_mod x.smaller f.label)

  cell_of : x.cell ≡ rank_of x / 1 % 16777216
  cell_of = sym (ap (λ (z : ℕ). z % 16777216) (div-one (rank_of x)) ∙ digits_mod (key_of x.elevation) f.cell)

  elevation_of_lem : x.elevation ≡ level_of (rank_of x / 16777216 % 65536)
  elevation_of_lem =
      sym
      (ap (λ (z : ℕ). level_of (z % 65536)) (digits_div (key_of x.elevation) f.cell)
      ∙ ap level_of (mod-eq_of_lt (key_small x.elevation f.not_above))
      ∙ level_key x.elevation f.not_below)

-- a field of the entry of number i, from its number
field_at : {A : Type 0} (d : A) (field : Entry → A) (word : Entry → ℕ) (value : ℕ → A) (l : List Entry)
    → ((x : Entry) → Among x l → field x ≡ value (word x))
    → (i : ℕ)
    → i < length l
    → get_or (map field l) i d ≡ value (get_or (map word l) i 0)
field_at d field word value [] f i h = let z : ⊥ = omega arith in absurd z
field_at d field word value (x ∷ l) f zero h = f x (inl refl)
field_at d field word value (x ∷ l) f (suc i) h = field_at d field word value l (λ y j. f y (inr j)) i (omega arith)

-- ---- one column
module _ {A : Type 0} (d : A) (values entry : List A) where
  pub column_none : ColumnTo d values 0 entry entry
  column_none = record { long = refl; written = λ i h. absurd (nothing i h); rest = λ i h. refl }
    where
      nothing : (i : ℕ) → i < 0 → ⊥
      nothing i h = omega arith

  pub column_more : {done k : ℕ} {value : ℕ → A} {column column₁ : List A}
      → ((i : ℕ) → i < k → get_or values (done + i) d ≡ value i)
      → Put d k done value column column₁
      → ColumnTo d values done entry column
      → ColumnTo d values (done + k) entry column₁
  column_more {done} {k} {value} {column} {column₁} v p c =
      record {
        long = p.long ∙ c.long;
        written = λ i h. written i h (dec_lt i done);
        rest = λ i h. p.after i h ∙ c.rest i (omega arith);
      }
    where
      written : (i : ℕ) → i < done + k → Dec (i < done) → get_or column₁ i d ≡ get_or values i d
      written i h (yes l) = p.before i l ∙ c.written i l
      written i h (no l) =
          let e : done + (i - done) ≡ i = omega arith in
          subst (λ (j : ℕ). get_or column₁ j d ≡ get_or values j d) e (p.written (i - done) (omega arith) ∙ sym (v (i - done) (omega arith)))

-- ---- one scan more
module _ (g : Grid) (e : List ℤ) (labels : List ℕ) (long : length e ≡ size g) where
  abbrev entries : List Entry
  entries = pour_points g e labels

  pub between_none : (k : ℕ) → k ≡ capacity → Between g e labels 0 0 k
  between_none k q =
      record {
        within = omega arith;
        full = omega arith;
        more = λ p f. reached_none (lines g e labels g.rows) entries f (whole_scan g e labels long f);
        last = λ h. let z : ⊥ = omega arith in absurd z;
      }

  module _ {limit n k m : ℕ} {pairs ranks : List ℕ} (w : Between g e labels limit n k) (q : k ≡ capacity)
      (b : Batch capacity limit (lines g e labels g.rows) m pairs ranks) where
    all_fit : AllFit (lines g e labels g.rows)
    all_fit = b.fit

    entries_are : Whole (lines g e labels g.rows) entries
    entries_are = whole_scan g e labels long all_fit

    reached : Reached entries limit n
    reached = w.more q all_fit

    pub scan_within : n + m ≤ length entries
    scan_within = next_within b entries_are reached

    pub between_more : m ≤ capacity → {limit₁ : ℕ} → limit₁ ≡ get_or pairs 16383 0 → Between g e labels limit₁ (n + m) m
    between_more f {limit₁} s =
        record {
          within = scan_within;
          full = f;
          more = λ p a. subst (λ (z : ℕ). Reached entries z (n + m)) (sym s) (reached_next b entries_are reached (omega arith) p);
          last = λ h. finished b entries_are reached h;
        }

    fits_entry : (x : Entry) → Among x entries → Fits x
    fits_entry x i = all_fit x (entries_are.from x i)

    module _ {A : Type 0} (d : A) (field : Entry → A) (value : ℕ → A) where
      of_pair : ((x : Entry) → Fits x → field x ≡ value (pair_of x)) → (i : ℕ) → i < m →
          get_or (map field entries) (n + i) d ≡ value (get_or pairs i 0)
      of_pair f i h =
          field_at d field (λ x. pair_of x) value entries (λ x a. f x (fits_entry x a)) (n + i) (let l = scan_within in omega arith)
          ∙ ap value (pair_agrees b entries_are reached i h)

      of_rank : ((x : Entry) → Fits x → field x ≡ value (rank_of x)) → (i : ℕ) → i < m →
          get_or (map field entries) (n + i) d ≡ value (get_or ranks i 0)
      of_rank f i h =
          field_at d field (λ x. rank_of x) value entries (λ x a. f x (fits_entry x a)) (n + i) (let l = scan_within in omega arith)
          ∙ ap value (rank_agrees b entries_are reached i h)

    -- the four columns
    pub smaller_more : {entry column column₁ : List ℕ}
        → Put 0 m n (λ i. get_or pairs i 0 / 4294967296 % 4294967296) column column₁
        → ColumnTo 0 (map (λ x. x.smaller) entries) n entry column
        → ColumnTo 0 (map (λ x. x.smaller) entries) (n + m) entry column₁
    smaller_more {entry} p c =
        column_more 0 (map (λ x. x.smaller) entries) entry (of_pair 0 (λ x. x.smaller) (λ z. z / 4294967296 % 4294967296) smaller_of) p c

    pub larger_more : {entry column column₁ : List ℕ}
        → Put 0 m n (λ i. get_or pairs i 0 / 1 % 4294967296) column column₁
        → ColumnTo 0 (map (λ x. x.larger) entries) n entry column
        → ColumnTo 0 (map (λ x. x.larger) entries) (n + m) entry column₁
    larger_more {entry} p c =
        column_more 0 (map (λ x. x.larger) entries) entry (of_pair 0 (λ x. x.larger) (λ z. z / 1 % 4294967296) larger_of) p c

    pub elevation_more : {entry column column₁ : List ℤ}
        → Put (pos 0) m n (λ i. level_of (get_or ranks i 0 / 16777216 % 65536)) column column₁
        → ColumnTo (pos 0) (map (λ x. x.elevation) entries) n entry column
        → ColumnTo (pos 0) (map (λ x. x.elevation) entries) (n + m) entry column₁
    elevation_more {entry} p c =
        column_more (pos 0) (map (λ x. x.elevation) entries) entry
        (of_rank (pos 0) (λ x. x.elevation) (λ z. level_of (z / 16777216 % 65536)) elevation_of_lem) p c

    pub cell_more : {entry column column₁ : List ℕ}
        → Put 0 m n (λ i. get_or ranks i 0 / 1 % 16777216) column column₁
        → ColumnTo 0 (map (λ x. x.cell) entries) n entry column
        → ColumnTo 0 (map (λ x. x.cell) entries) (n + m) entry column₁
    cell_more {entry} p c = column_more 0 (map (λ x. x.cell) entries) entry (of_rank 0 (λ x. x.cell) (λ z. z / 1 % 16777216) cell_of) p c

    pub columns_more : {s₀ s₁ s₂ l₀ l₁ l₂ c₀ c₁ c₂ : List ℕ} {e₀ e₁ e₂ : List ℤ}
        → Puts m n pairs ranks s₁ s₂ l₁ l₂ e₁ e₂ c₁ c₂
        → ColumnsTo entries n s₀ s₁ l₀ l₁ e₀ e₁ c₀ c₁
        → ColumnsTo entries (n + m) s₀ s₂ l₀ l₂ e₀ e₂ c₀ c₂
    columns_more p c =
        record {
          smaller = smaller_more p.smaller c.smaller;
          larger = larger_more p.larger c.larger;
          elevation = elevation_more p.elevation c.elevation;
          cell = cell_more p.cell c.cell;
        }

pub columns_none : {l : List Entry} {s₀ l₀ c₀ : List ℕ} {e₀ : List ℤ} → ColumnsTo l 0 s₀ s₀ l₀ l₀ e₀ e₀ c₀ c₀
columns_none {l} {s₀} {l₀} {c₀} {e₀} =
    record {
      smaller = column_none 0 (map (λ x. x.smaller) l) s₀;
      larger = column_none 0 (map (λ x. x.larger) l) l₀;
      elevation = column_none (pos 0) (map (λ x. x.elevation) l) e₀;
      cell = column_none 0 (map (λ x. x.cell) l) c₀;
    }

-- ---- the end of a column
pub column_whole : {A : Type 0} (d : A) (field : Entry → A) (l : List Entry) {entry column : List A} {done : ℕ}
    → done ≡ length l
    → length l ≤ length entry
    → ColumnTo d (map field l) done entry column
    → column ≡ map field l ++ drop (length l) entry
column_whole d field l {entry} q h c =
    overwritten d (map field l) entry (length-map l field) h c.long (λ i k. c.written i (omega arith)) (λ i k. c.rest i (omega arith))

pub columns_whole : (l : List Entry) {done : ℕ} {s₀ s₁ l₀ l₁ c₀ c₁ : List ℕ} {e₀ e₁ : List ℤ}
    → done ≡ length l
    → length l ≤ length s₀
    → OneLength s₀ l₀ e₀ c₀
    → ColumnsTo l done s₀ s₁ l₀ l₁ e₀ e₁ c₀ c₁
    → Written l s₀ s₁ l₀ l₁ e₀ e₁ c₀ c₁
columns_whole l q h o c =
    record {
      smaller = column_whole 0 (λ x. x.smaller) l q h c.smaller;
      larger = column_whole 0 (λ x. x.larger) l q (let z = o.larger in omega arith) c.larger;
      elevation = column_whole (pos 0) (λ x. x.elevation) l q (let z = o.elevation in omega arith) c.elevation;
      cell = column_whole 0 (λ x. x.cell) l q (let z = o.cell in omega arith) c.cell;
    }

-- ---- question 14
module _ (l : List Entry) {s₀ l₀ c₀ : List ℕ} {e₀ : List ℤ} where
  pub settled_no : {n : ℕ} {r : Counted} → r ≡ no_room n → n ≡ length l → length s₀ < n → Settled l s₀ s₀ l₀ l₀ e₀ e₀ c₀ c₀ r
  settled_no {n} {r} e q h = subst (Settled l s₀ s₀ l₀ l₀ e₀ e₀ c₀ c₀) (sym e) no
    where
      no : Settled l s₀ s₀ l₀ l₀ e₀ e₀ c₀ c₀ (no_room n)
      no =
          record {
            answer =
                sym (ap (λ (t : Bool). ask t (refusal 14 (length l)) accepted) (lt-leb (length l) (length s₀) (omega arith))
                ∙ ap (refusal 14) (sym q));
            count = refl;
            smaller = refl;
            larger = refl;
            elevation = refl;
            cell = refl;
          }

  pub settled_yes : {n : ℕ} {r : Counted} {s₁ l₁ c₁ : List ℕ} {e₁ : List ℤ}
      → r ≡ counted n
      → n ≡ length l
      → n ≤ length s₀
      → Written l s₀ s₁ l₀ l₁ e₀ e₁ c₀ c₁
      → Settled l s₀ s₁ l₀ l₁ e₀ e₁ c₀ c₁ r
  settled_yes {n} {r} {s₁} {l₁} {c₁} {e₁} e q h w = subst (Settled l s₀ s₁ l₀ l₁ e₀ e₁ c₀ c₁) (sym e) yes_of
    where
      yes_of : Settled l s₀ s₁ l₀ l₁ e₀ e₁ c₀ c₁ (counted n)
      yes_of =
          record {
            answer = sym (ap (λ (t : Bool). ask t (refusal 14 (length l)) accepted) (le-leb (length l) (length s₀) (omega arith)));
            count = q;
            smaller = w.smaller;
            larger = w.larger;
            elevation = w.elevation;
            cell = w.cell;
          }

-- ---- where one batch has all entries
module _ (g : Grid) (e : List ℤ) (labels : List ℕ) (long : length e ≡ size g) {m : ℕ} {pairs ranks : List ℕ}
    (b : Batch capacity 0 (lines g e labels g.rows) m pairs ranks) where
  pub first_batch : m ≤ capacity → Between g e labels (get_or pairs 16383 0) m m
  first_batch h =
      let q : 0 + m ≡ m = omega arith in
      subst (λ (n : ℕ). Between g e labels (get_or pairs 16383 0) n m) q
      (between_more g e labels long (between_none g e labels long capacity refl) refl b h refl)

  pub few_are : m < capacity → m ≡ length (pour_points g e labels)
  few_are h = (first_batch (omega arith)).last h

  pub few_written : {s₀ s₁ l₀ l₁ c₀ c₁ : List ℕ} {e₀ e₁ : List ℤ}
      → m < capacity
      → m ≤ length s₀
      → OneLength s₀ l₀ e₀ c₀
      → Puts m 0 pairs ranks s₀ s₁ l₀ l₁ e₀ e₁ c₀ c₁
      → Written (pour_points g e labels) s₀ s₁ l₀ l₁ e₀ e₁ c₀ c₁
  few_written h k o p =
      let q = few_are h in
      let z : 0 + m ≡ length (pour_points g e labels) = omega arith in
      columns_whole (pour_points g e labels) z (omega arith) o
      (columns_more g e labels long (between_none g e labels long capacity refl) refl b p columns_none)
