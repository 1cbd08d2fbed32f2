-- What is shown of lists of culverts (document 02, Wish 10): named types, each with a law.
use Rattle.std.specs.Prelude.{◌≡◌, true, cond, List, [], ◌∷◌, ℕ, ◌<◌, T, eqb, length, get_or, ℤ, ◌≤ℤ◌}
use Rattle.grid.specs.declared.Grid.{Grid}
use Rattle.grid.specs.declared.Answer.{Answer}
use Rattle.grid.specs.declared.Located.{Located}
use Rattle.grid.specs.Below.{table}
use Rattle.grid.specs.Sheet.{top, at, is_data}
use Rattle.grid.specs.Culverts.{opened, is_level_for, first_bad_entry}
use Rattle.grid.specs.Checks.{refusal, is_accepted, ask, drain_check, ask_entries, culverts_check, of_located}
use Rattle.grid.specs.Promises.{DrainPromise, CulvertsPromise}

-- each entry of the one list is an entry of the other
abbrev pub EntriesIn : List ℕ → List ℤ → List ℕ → List ℤ → Type 0
EntriesIn cells levels cells' levels' =
    (k : ℕ) → k < length cells →
    (j : ℕ) × (j < length cells') × (get_or cells' j 0 ≡ get_or cells k 0) × (get_or levels' j top ≡ get_or levels k top)

-- two lists with the same entries, in any order and each any number of times
abbrev pub SameEntries : List ℕ → List ℤ → List ℕ → List ℤ → Type 0
SameEntries cells levels cells' levels' = EntriesIn cells levels cells' levels' × EntriesIn cells' levels' cells levels

-- ---- "The order of an accepted list makes no difference": lists with the same entries give one opened sheet, and where the one is
-- accepted so is the other, if its two lists have one length
abbrev pub AnyOrder : Type 0
AnyOrder =
    (e : List ℤ) (cells cells' : List ℕ) (levels levels' : List ℤ) → SameEntries cells levels cells' levels' →
    (opened e cells levels ≡ opened e cells' levels')
    × ((g : Grid) (filled codes counts labels work : ℕ) → length levels' ≡ length cells' →
    T (is_accepted (culverts_check g e cells levels filled codes counts labels work)) →
    T (is_accepted (culverts_check g e cells' levels' filled codes counts labels work)))

-- "to the four results": of two calls on one sheet with such lists and with buffers of the same lengths, where the one accepts so does the
-- other, and both leave the same four lists, by their promises
abbrev pub SameFour : Type 0
SameFour =
    (g : Grid) (e : List ℤ) (cells cells' : List ℕ) (levels levels' f₀ f₁ f₀' f₁' : List ℤ)
    (k₀ k₁ k₀' k₁' a₀ a₁ a₀' a₁' l₀ l₁ l₀' l₁' w₀ w₁ w₀' w₁' : List ℕ) (r r' : Located) →
    SameEntries cells levels cells' levels' → length levels' ≡ length cells' →
    (length f₀' ≡ length f₀) × (length k₀' ≡ length k₀) × (length a₀' ≡ length a₀) × (length l₀' ≡ length l₀) × (length w₀' ≡ length w₀) →
    CulvertsPromise g e cells levels f₀ f₁ k₀ k₁ a₀ a₁ l₀ l₁ w₀ w₁ r →
    CulvertsPromise g e cells' levels' f₀' f₁' k₀' k₁' a₀' a₁' l₀' l₁' w₀' w₁' r' → T (is_accepted (of_located r)) →
    T (is_accepted (of_located r')) × (f₁ ≡ f₁') × (k₁ ≡ k₁') × (a₁ ≡ a₁') × (l₁ ≡ l₁')

-- a list in another order, place p k of it at place k, each place of it somewhere, has the same entries
abbrev pub in_order : {A : Type 0} → (ℕ → ℕ) → A → List A → List A
in_order p d l = table (length l) (λ k. get_or l (p k) d)

abbrev pub Reordered : Type 0
Reordered =
    (cells : List ℕ) (levels : List ℤ) (p : ℕ → ℕ) → length levels ≡ length cells →
    ((k : ℕ) → k < length cells → p k < length cells) →
    ((j : ℕ) → j < length cells → (k : ℕ) × (k < length cells) × (p k ≡ j)) →
    SameEntries cells levels (in_order p 0 cells) (in_order p top levels)

-- ---- "a cell named twice has the lower of its levels": at a cell that an accepted list names the opened sheet has the lowest level named
-- for it, and every other cell is as it was
abbrev pub LowestNamed : Type 0
LowestNamed =
    (e : List ℤ) (cells : List ℕ) (levels : List ℤ) → first_bad_entry e cells levels ≡ length cells →
    ((k : ℕ) → k < length cells →
    (at (opened e cells levels) (get_or cells k 0) ≤ℤ get_or levels k top)
    × ((j : ℕ) × (j < length cells) × (get_or cells j 0 ≡ get_or cells k 0)
    × (at (opened e cells levels) (get_or cells k 0) ≡ get_or levels j top)))
    × ((c : ℕ) → ((k : ℕ) → k < length cells → get_or cells k 0 ≡ c → ⊥) → at (opened e cells levels) c ≡ at e c)

-- ---- "An empty list gives the plain results": the sheet, the questions and the promise of the plain call
abbrev pub EmptyList : Type 0
EmptyList =
    (g : Grid) (e : List ℤ) →
    (opened e [] [] ≡ e)
    × ((filled codes counts labels work : ℕ) →
    culverts_check g e [] [] filled codes counts labels work ≡ drain_check g e filled codes counts labels work)
    × ((f₀ f₁ : List ℤ) (k₀ k₁ a₀ a₁ l₀ l₁ w₀ w₁ : List ℕ) (r : Located) →
    CulvertsPromise g e [] [] f₀ f₁ k₀ k₁ a₀ a₁ l₀ l₁ w₀ w₁ r → DrainPromise g e f₀ f₁ k₀ k₁ a₀ a₁ l₀ l₁ w₀ w₁ (of_located r))

-- ---- "everything that held for one culvert": a list of one entry asks 15 and then 16, at place 0, and opens "the sheet with that cell at
-- that level"
abbrev pub OneEntry : Type 0
OneEntry =
    (e : List ℤ) (cell : ℕ) (level : ℤ) →
    ((later : Answer) → ask_entries e (cell ∷ []) (level ∷ []) later
    ≡ ask (is_data e cell) (refusal 15 0) (ask (is_level_for e cell level) (refusal 16 0) later))
    × (is_level_for e cell level ≡ true →
    opened e (cell ∷ []) (level ∷ []) ≡ table (length e) (λ c. cond (eqb c cell) level (at e c)))
