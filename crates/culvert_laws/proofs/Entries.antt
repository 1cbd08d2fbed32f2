-- The named laws of lists of entries. An opened cell is at the lowest of its elevation and the levels named for it, and these are the same
-- for lists with the same entries.
use mathlib.Core.Path.{◌≡◌, refl, sym, ◌∙◌, ap, subst}
use mathlib.Core.Bool.{Bool, true, false, not, cond, ◌&&◌}
use mathlib.Core.Logic.{◌⊎◌, inl, inr, ⊎_elim}
use mathlib.Core.List.{List, [], ◌∷◌}
use Prim.Native.Nat.{ℕ, ◌<◌}
use native.Mathlib.Omega.{arith}
use native.Mathlib.Decide.{dec_lt, ℕ_discrete}
use lib.Dec.{T, eqb}
use lib.ListN.{length, get_or}
use lib.IntN.{ℤ}
use lib.Signed.{◌≤ℤ◌}
use borrow.Author.Tests.{eq-eqb, ne_eqb}
use Rattle.grid.specs.declared.Grid.{Grid}
use Rattle.grid.specs.declared.Answer.{Answer}
use Rattle.grid.specs.Below.{table, first_below}
use Rattle.grid.specs.Sheet.{void, top, at, is_data, lower}
use Rattle.grid.specs.Fill.{filled}
use Rattle.grid.specs.Directions.{directions}
use Rattle.grid.specs.Routes.{counts, labels}
use Rattle.grid.specs.Culverts.{opened_to, opened, is_level_for, is_bad_entry, first_bad_entry}
use Rattle.grid.specs.Checks.{refusal, accepted, is_accepted, ask, ask_description, ask_flow, ask_lengths, ask_work, ask_entries, ask_reach}
use Rattle.grid.specs.Checks.{drain_check, culverts_check, of_located}
use Rattle.grid.specs.Promises.{result_of, FourResults}
use Rattle.grid.specs.Entries.{EntriesIn, SameEntries, AnyOrder, SameFour, in_order, Reordered, LowestNamed, EmptyList, OneEntry}
use Rattle.grid_laws.proofs.Tests.{T_true, cond_true, cond_false}
use Rattle.grid_laws.proofs.Below.{at_table, length_table, is_table, table_ext}
use Rattle.grid_laws.proofs.Order.{≤ℤ-trans, ≤ℤ-of-eq, ≤ℤ-antisym, lower_right}
use Rattle.grid_laws.proofs.Cells.{data_below}
use Rattle.checks.proofs.Gate.{number_zero, through}
use Rattle.checks.proofs.Asked.{description_gate, lengths_work_gate}
use Rattle.checks.proofs.Questions.{reach_gate}
use Rattle.culvert_laws.proofs.Opened.{level_below, Good, good_level, AllGood, all_good, none_bad, opened_at, opened_off}
use Rattle.culvert_laws.proofs.Opened.{to_none, to_named, to_other, to_≤, to_≤_level, NamedAt, to_cases}
use Rattle.culvert_laws.proofs.Asked.{pairs_gate, entries_gate, entries_yes}

-- ---- the order of entries

module _ (e : List ℤ) (cells cells' : List ℕ) (levels levels' : List ℤ) (within : EntriesIn cells levels cells' levels') where
  -- more entries open a cell at least as far
  further : (c : ℕ) → opened_to e cells' levels' (length cells') c ≤ℤ opened_to e cells levels (length cells) c
  further c = go (to_cases e cells levels (length cells) c)
    where
      go : (opened_to e cells levels (length cells) c ≡ at e c)
          ⊎ NamedAt e cells levels (length cells) c (opened_to e cells levels (length cells) c) →
          opened_to e cells' levels' (length cells') c ≤ℤ opened_to e cells levels (length cells) c
      go (inl q) = rw q (to_≤ e cells' levels' (length cells') c)
      go (inr w) =
          let v = within w.0 w.1 in
          rw w.3 (≤ℤ-trans (to_≤_level e cells' levels' (length cells') v.0 c v.1 (v.2 ∙ w.2)) (≤ℤ-of-eq v.3))

  good_within : AllGood e cells' levels' → AllGood e cells levels
  good_within G k h =
      let v = within k h in
      subst (λ (z : ℤ). Good e (get_or cells k 0) z) v.3
      (subst (λ (x : ℕ). Good e x (get_or levels' v.0 top)) v.2 (G v.0 v.1))

same_opened : (e : List ℤ) (cells cells' : List ℕ) (levels levels' : List ℤ) → SameEntries cells levels cells' levels' →
    opened e cells levels ≡ opened e cells' levels'
unfolding opened
same_opened e cells cells' levels levels' S =
    table_ext (length e) (opened_to e cells levels (length cells)) (opened_to e cells' levels' (length cells'))
    (λ c h. ≤ℤ-antisym (further e cells' cells levels' levels S.1 c) (further e cells cells' levels levels' S.0 c))

module _ (g : Grid) (e : List ℤ) (cells cells' : List ℕ) (levels levels' : List ℤ) (S : SameEntries cells levels cells' levels')
    (f k a l w : ℕ) where
  accepted_alike : length levels' ≡ length cells' → (culverts_check g e cells levels f k a l w).number ≡ 0 →
      culverts_check g e cells' levels' f k a l w ≡ accepted
  unfolding culverts_check
  accepted_alike pairs z =
      let d = through (description_gate g) _ z in
      let p = through (pairs_gate cells levels) _ d.1 in
      let s = through (lengths_work_gate g (length e ∷ []) (f ∷ k ∷ a ∷ l ∷ []) w) _ p.1 in
      let n = through (entries_gate e cells levels) _ s.1 in
      let r = through (reach_gate g (opened e cells levels)) accepted n.1 in
      let G = good_within e cells' cells levels' levels S.1 (all_good e cells levels n.0.fact) in
      d.0.then _ ∙ cond_true _ _ (eq-eqb (length levels') (length cells') pairs)
      ∙ s.0.then _
      ∙ entries_yes e cells' levels' (none_bad e cells' levels' G) _
      ∙ ap (λ (x : List ℤ). ask_reach g x accepted) (sym (same_opened e cells cells' levels levels' S))
      ∙ r.0.then accepted

pub any_order : AnyOrder
any_order e cells cells' levels levels' S = (
  same_opened e cells cells' levels levels' S,
  λ g f k a l w pairs t.
      let z = number_zero (culverts_check g e cells levels f k a l w) t in
      subst (λ (x : Answer). T (is_accepted x)) (sym (accepted_alike g e cells cells' levels levels' S f k a l w pairs z)) tt,
)

-- ---- two calls

-- accepted calls with the same result leave the same
alike : {A : Type 0} (a a' : Answer) (z z' : List A) {x x' y y' : List A} → T (is_accepted a) → T (is_accepted a') → y ≡ y' →
    x ≡ result_of a y z → x' ≡ result_of a' y' z' → x ≡ x'
alike a a' z z' {y = y} {y' = y'} t t' s p p' =
    p ∙ cond_true y z (T_true (is_accepted a) t) ∙ s ∙ sym (p' ∙ cond_true y' z' (T_true (is_accepted a') t'))

pub same_four : SameFour
same_four g e cells cells' levels levels' f₀ f₁ f₀' f₁' k₀ k₁ k₀' k₁' a₀ a₁ a₀' a₁' l₀ l₁ l₀' l₁' w₀ w₁ w₀' w₁' r r' S pairs L P Q t =
    let check = culverts_check g e cells levels (length f₀) (length k₀) (length a₀) (length l₀) (length w₀) in
    let z : check.number ≡ 0 = ap (λ (a : Answer). a.number) (sym P.answer) ∙ number_zero (of_located r) t in
    let yes : of_located r' ≡ accepted =
    Q.answer ∙ rw (L.0, L.1, L.2, L.3, L.4) (accepted_alike g e cells cells' levels levels' S _ _ _ _ _ pairs z) in
    let t' : T (is_accepted (of_located r')) = subst (λ (x : Answer). T (is_accepted x)) (sym yes) tt in
    let f = ap (filled g) (same_opened e cells cells' levels levels' S) in
    let k = ap (directions g) f in (
      t',
      alike (of_located r) (of_located r') f₀ f₀' t t' f P.four.filled Q.four.filled,
      alike (of_located r) (of_located r') k₀ k₀' t t' k P.four.codes Q.four.codes,
      alike (of_located r) (of_located r') a₀ a₀' t t' (ap (counts g) k) P.four.counts Q.four.counts,
      alike (of_located r) (of_located r') l₀ l₀' t t' (ap (labels g) k) P.four.labels Q.four.labels,
    )

-- ---- another order

pub reordered : Reordered
reordered cells levels p pairs into onto =
    (λ j h. from j h (onto j h), λ k h. to k (rw (length_table (length cells) (λ x. get_or cells (p x) 0)) at h))
  where
    cell : (k : ℕ) → k < length cells → get_or (in_order p 0 cells) k 0 ≡ get_or cells (p k) 0
    cell k h = at_table (length cells) (λ x. get_or cells (p x) 0) k 0 h

    level : (k : ℕ) → k < length cells → get_or (in_order p top levels) k top ≡ get_or levels (p k) top
    level k h = at_table (length levels) (λ x. get_or levels (p x) top) k top (omega arith)

    to : (k : ℕ) → k < length cells → (j : ℕ) × (j < length cells) × (get_or cells j 0 ≡ get_or (in_order p 0 cells) k 0)
        × (get_or levels j top ≡ get_or (in_order p top levels) k top)
    to k h = (p k, into k h, sym (cell k h), sym (level k h))

    from : (j : ℕ) → j < length cells → (k : ℕ) × (k < length cells) × (p k ≡ j) →
        (k : ℕ) × (k < length (in_order p 0 cells)) × (get_or (in_order p 0 cells) k 0 ≡ get_or cells j 0)
        × (get_or (in_order p top levels) k top ≡ get_or levels j top)
    from j h w =
        let l = w.1 in
        let q = length_table (length cells) (λ k. get_or cells (p k) 0) in (
          w.0,
          omega arith,
          cell w.0 l ∙ ap (λ (x : ℕ). get_or cells x 0) w.2,
          level w.0 l ∙ ap (λ (x : ℕ). get_or levels x top) w.2,
        )

-- ---- the lowest level

module _ (e : List ℤ) (cells : List ℕ) (levels : List ℤ) where
  -- where the elevation is left, it is the level itself
  lowest_of : (k : ℕ) → k < length cells → Good e (get_or cells k 0) (get_or levels k top) →
      (opened_to e cells levels (length cells) (get_or cells k 0) ≡ at e (get_or cells k 0))
      ⊎ NamedAt e cells levels (length cells) (get_or cells k 0) (opened_to e cells levels (length cells) (get_or cells k 0)) →
      NamedAt e cells levels (length cells) (get_or cells k 0) (opened_to e cells levels (length cells) (get_or cells k 0))
  lowest_of k h G (inr w) = w
  lowest_of k h G (inl q) =
      let below = to_≤_level e cells levels (length cells) k (get_or cells k 0) h refl in
      (k, h, refl, ≤ℤ-antisym below (≤ℤ-trans (good_level G) (≤ℤ-of-eq (sym q))))

  unnamed : (c : ℕ) → ((k : ℕ) → k < length cells → get_or cells k 0 ≡ c → ⊥) → at (opened e cells levels) c ≡ at e c
  unnamed c f = go (dec_lt c (length e))
    where
      go : Dec (c < length e) → at (opened e cells levels) c ≡ at e c
      go (no n) = opened_off e cells levels c (omega arith)
      go (yes h) =
          opened_at e cells levels c h
          ∙ ⊎_elim (λ q. q) (λ w. absurd (f w.0 w.1 w.2)) (to_cases e cells levels (length cells) c)

pub lowest_named : LowestNamed
lowest_named e cells levels none = (λ k h. named k h (all_good e cells levels none k h), unnamed e cells levels)
  where
    named : (k : ℕ) → k < length cells → Good e (get_or cells k 0) (get_or levels k top) →
        (at (opened e cells levels) (get_or cells k 0) ≤ℤ get_or levels k top)
        × NamedAt e cells levels (length cells) (get_or cells k 0) (at (opened e cells levels) (get_or cells k 0))
    named k h G =
        rw (opened_at e cells levels (get_or cells k 0) (data_below e (get_or cells k 0) G.on_data)) (
          to_≤_level e cells levels (length cells) k (get_or cells k 0) h refl,
          lowest_of e cells levels k h G (to_cases e cells levels (length cells) (get_or cells k 0)),
        )

-- ---- the empty list

empty_opened : (e : List ℤ) → opened e [] [] ≡ e
unfolding opened
empty_opened e = sym (is_table (length e) (opened_to e [] [] 0) e void refl (λ c h. sym (to_none e [] [] c)))

empty_check : (g : Grid) (e : List ℤ) (f k a l w : ℕ) → culverts_check g e [] [] f k a l w ≡ drain_check g e f k a l w
unfolding culverts_check drain_check ask_flow ask_entries first_bad_entry first_below
empty_check g e f k a l w =
    ap
    (λ (x : List ℤ).
    ask_description g (ask_lengths g (length e ∷ []) (f ∷ k ∷ a ∷ l ∷ []) (ask_work g w (ask_reach g x accepted))))
    (empty_opened e)

pub empty_list : EmptyList
empty_list g e = (
  empty_opened e,
  empty_check g e,
  λ f₀ f₁ k₀ k₁ a₀ a₁ l₀ l₁ w₀ w₁ r P.
      record {
        answer = P.answer ∙ empty_check g e _ _ _ _ _;
        four = subst (λ (x : List ℤ). FourResults g x f₀ f₁ k₀ k₁ a₀ a₁ l₀ l₁ (of_located r)) (empty_opened e) P.four;
        work = P.work;
      },
)

-- ---- one entry

module _ (e : List ℤ) (cell : ℕ) (level : ℤ) where
  -- by the place of the first bad entry
  abbrev asked_at : ℕ → Answer → Answer
  asked_at k later = ask (eqb k 1) (refusal (cond (is_data e (get_or (cell ∷ []) k 0)) 16 15) k) later

  one_asked : (later : Answer) →
      ask_entries e (cell ∷ []) (level ∷ []) later ≡ ask (is_data e cell) (refusal 15 0) (ask (is_level_for e cell level) (refusal 16 0) later)
  unfolding ask_entries first_bad_entry first_below is_bad_entry
  one_asked later = go (is_data e cell) refl (is_level_for e cell level)
    where
      go : (d : Bool) → is_data e cell ≡ d → (l : Bool) →
          asked_at (cond (not (d && l)) 0 1) later ≡ ask d (refusal 15 0) (ask l (refusal 16 0) later)
      go true q true = refl
      go true q false = ap (λ (d : Bool). refusal (cond d 16 15) 0) q
      go false q l = ap (λ (d : Bool). refusal (cond d 16 15) 0) q

  one_opened : is_level_for e cell level ≡ true →
      opened e (cell ∷ []) (level ∷ []) ≡ table (length e) (λ c. cond (eqb c cell) level (at e c))
  unfolding opened
  one_opened y =
      table_ext (length e) (opened_to e (cell ∷ []) (level ∷ []) 1) (λ c. cond (eqb c cell) level (at e c))
      (λ c h. each c (ℕ_discrete cell c))
    where
      each : (c : ℕ) → Dec (cell ≡ c) → opened_to e (cell ∷ []) (level ∷ []) 1 c ≡ cond (eqb c cell) level (at e c)
      each c (no f) =
          to_other e (cell ∷ []) (level ∷ []) 0 c f ∙ to_none e (cell ∷ []) (level ∷ []) c
          ∙ sym (cond_false level (at e c) (ne_eqb c cell (λ q. f (sym q))))
      each c (yes q) =
          to_named e (cell ∷ []) (level ∷ []) 0 c q
          ∙ ap (λ (z : ℤ). lower z level) (to_none e (cell ∷ []) (level ∷ []) c)
          ∙ lower_right (subst (λ (x : ℕ). level ≤ℤ at e x) q (level_below e cell level y))
          ∙ sym (cond_true level (at e c) (eq-eqb c cell (sym q)))

pub one_entry : OneEntry
one_entry e cell level = (one_asked e cell level, one_opened e cell level)
