-- The questions of the ponds in order, and the promise at each no and after the last yes.
use mathlib.Core.Path.{◌≡◌, refl, sym, ◌∙◌, ap}
use mathlib.Core.Bool.{true, false, cond}
use mathlib.Core.List.{List, [], ◌∷◌}
use Prim.Native.Nat.{ℕ, ◌*◌, ◌≤◌, ◌<◌}
use native.Mathlib.Omega.{arith}
use lib.Dec.{T, eqb, leb}
use lib.ListN.{length, get_or}
use lib.IntN.{ℤ}
use borrow.Author.Tests.{leb-true, le-leb, lt-leb, eqb-true}
use Rattle.grid.specs.declared.Grid.{Grid}
use Rattle.grid.specs.declared.Answer.{Answer}
use Rattle.grid.specs.declared.Counted.{Counted}
use Rattle.grid.specs.Sheet.{size, at, SixteenBits}
use Rattle.grid.specs.Outlet.{first_stranded}
use Rattle.grid.specs.Fill.{filled}
use Rattle.grid.specs.Ponds as P
use Rattle.grid.specs.Checks.{refusal, accepted, ask, is_accepted, of_counted, all_have, ask_outlets, ask_work, ask_reach, ponds_check}
use Rattle.grid.specs.Promises.{PondsPromise}
use Rattle.grid_laws.proofs.Tests.{T_true, cond_true, cond_false}
use Rattle.checks.proofs.Gate.{Gate, one, both, kept, passed, answered_no, next_no, next_yes}
use Rattle.checks.proofs.Asked.{Sheets, outlets_gate, one_outlet_result, all_are}
use Rattle.checks.proofs.Questions.{stranded_≤, reach_no, reach_yes, number_late, yes_is_late}
use Rattle.pond_laws.specs.Gathered.{Gathered}
use Rattle.pond_laws.proofs.Level.{same_pond, one_number}
use Rattle.pond_laws.proofs.Depth.{difference}
use Rattle.pond_laws.proofs.Total.{no_wrap}
use Rattle.pond_laws.proofs.Columns.{level_column, cells_column, volume_column, one_level, total_column}
use Rattle.pond_numbers.specs.State.{Sizes, Numbered}
use Rattle.pond_columns.specs.State.{OneLength}
use Rattle.ponds.specs.State.{asked14, Settled}
use Rattle.pond_columns.proofs.Gathering.{count_is}

-- ---- question 14

module _ (g : Grid) (e : List ℤ) (w : List ℕ) (count : ℕ) (Z : Sizes g e (length w)) (N : Numbered g e w (size g) count) where
  pub settled_no : {ponds₀ : List ℕ} {level₀ : List ℤ} {cells₀ volume₀ : List ℕ} → length level₀ < count →
      Settled g e ponds₀ ponds₀ level₀ level₀ cells₀ cells₀ volume₀ volume₀ (asked14 g e level₀)
      (record { number = 14; place = count; count = 0 })
  settled_no {level₀ = level₀} h =
      let q = count_is g e w count Z N in
      record {
        range = N.range;
        late = number_late 14 tt;
        answer =
            ap (refusal 14) q
            ∙ sym (cond_false accepted (refusal 14 (P.pond_count g e)) (lt-leb (P.pond_count g e) (length level₀) (omega arith)));
        count = refl;
        ponds = refl;
        level = refl;
        cells = refl;
        volume = refl;
      }

  pub settled_yes : {ponds₀ ponds₁ : List ℕ} {level₀ level₁ : List ℤ} {cells₀ cells₁ volume₀ volume₁ : List ℕ} →
      count ≤ length level₀ → OneLength level₀ cells₀ volume₀ → ponds₁ ≡ P.ponds g e →
      Gathered e (filled g e) (P.ponds g e) (P.pond_count g e) (size g) level₀ level₁ cells₀ cells₁ volume₀ volume₁ →
      Settled g e ponds₀ ponds₁ level₀ level₁ cells₀ cells₁ volume₀ volume₁ (asked14 g e level₀)
      (record { number = 0; place = 0; count = count })
  settled_yes {level₀ = level₀} h O is G =
      let q = count_is g e w count Z N in
      let a = O.cells_long in
      let b = O.volume_long in
      record {
        range = N.range;
        late = yes_is_late refl;
        answer = sym (cond_true accepted (refusal 14 (P.pond_count g e)) (le-leb (P.pond_count g e) (length level₀) (omega arith)));
        count = q;
        ponds = is;
        level = level_column g e Z.long N.range G (omega arith);
        cells = cells_column g e Z.long N.range G (omega arith);
        volume = volume_column g e Z.long N.range G (omega arith);
      }

-- ---- question 18

module _ (g : Grid) (e : List ℤ) (range : SixteenBits e) (first : ℕ) (place : first ≡ first_stranded g e) where
  pub settled_stranded : {ponds₀ : List ℕ} {level₀ : List ℤ} {cells₀ volume₀ : List ℕ} → first < size g →
      Settled g e ponds₀ ponds₀ level₀ level₀ cells₀ cells₀ volume₀ volume₀ (ask_reach g e (asked14 g e level₀))
      (record { number = 18; place = first; count = 0 })
  settled_stranded {level₀ = level₀} h =
      record {
        range = range;
        late = number_late 18 tt;
        answer = ap (refusal 18) place ∙ sym (reach_no g e (asked14 g e level₀) (let p = place in omega arith));
        count = refl;
        ponds = refl;
        level = refl;
        cells = refl;
        volume = refl;
      }

  pub settled_reached : {ponds₀ ponds₁ : List ℕ} {level₀ level₁ : List ℤ} {cells₀ cells₁ volume₀ volume₁ : List ℕ} {r : Counted} →
      size g ≤ first → Settled g e ponds₀ ponds₁ level₀ level₁ cells₀ cells₁ volume₀ volume₁ (asked14 g e level₀) r →
      Settled g e ponds₀ ponds₁ level₀ level₁ cells₀ cells₁ volume₀ volume₁ (ask_reach g e (asked14 g e level₀)) r
  settled_reached {level₀ = level₀} h S =
      let most = stranded_≤ g e in
      record {
        range = S.range;
        late = S.late;
        answer = S.answer ∙ sym (reach_yes g e (asked14 g e level₀) (let p = place in omega arith));
        count = S.count;
        ponds = S.ponds;
        level = S.level;
        cells = S.cells;
        volume = S.volume;
      }

-- ---- the promise

module _ (g : Grid) (e : List ℤ) (ponds₀ : List ℕ) (level₀ : List ℤ) (cells₀ volume₀ work₀ : List ℕ) where
  -- a no leaves every list as it is
  refusal_promise : (number place : ℕ)
      → (number ≡ 0 → ⊥)
      → refusal number place ≡ ponds_check g e (length ponds₀) (length level₀) (length cells₀) (length volume₀) (length work₀)
      → PondsPromise g e ponds₀ ponds₀ level₀ level₀ cells₀ cells₀ volume₀ volume₀ work₀ work₀
      (record { number = number; place = place; count = 0 })
  refusal_promise number place above q =
      record {
        answer = q;
        count = kept above _;
        ponds = kept above _;
        level = kept above _;
        cells = kept above _;
        volume = kept above _;
        work = record { same_length = refl; untouched = λ _. refl };
        one_pond = λ t. none t;
        one_level = λ t. none t;
        difference = λ t. none t;
        total = λ t. none t;
        no_wrap = λ t. none t;
      }
    where
      none : {A : Type 0} → T (eqb number 0) → A
      none t = absurd (above (eqb-true number 0 (T_true (eqb number 0) t)))

  module _ (answer : Answer)
      (asked : answer ≡ ask_outlets g (length e ∷ []) (length ponds₀ ∷ length ponds₀ ∷ length ponds₀ ∷ length ponds₀ ∷ []) accepted) where
    first : answer ≡ ask_outlets g (length e ∷ []) (length ponds₀ ∷ []) accepted
    first = asked ∙ one_outlet_result g (length e) (length ponds₀) accepted

    before_columns : Gate (ask_outlets g (length e ∷ []) (length ponds₀ ∷ [])) (Sheets g (length e ∷ []) (length ponds₀ ∷ []))
    before_columns = outlets_gate g (length e ∷ []) (length ponds₀ ∷ [])

    pub promise_first : (answer.number ≡ 0 → ⊥)
        → PondsPromise g e ponds₀ ponds₀ level₀ level₀ cells₀ cells₀ volume₀ volume₀ work₀ work₀
        (record { number = answer.number; place = answer.place; count = 0 })
    unfolding ponds_check
    promise_first n = refusal_promise answer.number answer.place n (answered_no before_columns first n _)

    module _ (yes : answer.number ≡ 0) where
      sheets : Sheets g (length e ∷ []) (length ponds₀ ∷ [])
      sheets = (passed before_columns first yes).fact

      pub cells_few : size g ≤ 16000000
      cells_few = sheets.fits.cells

      pub promise_columns : all_have (length level₀) (length cells₀ ∷ length volume₀ ∷ []) ≡ false
          → PondsPromise g e ponds₀ ponds₀ level₀ level₀ cells₀ cells₀ volume₀ volume₀ work₀ work₀
          (record { number = 8; place = 0; count = 0 })
      unfolding ponds_check
      promise_columns h = refusal_promise 8 0 (λ z. omega arith) (next_no before_columns first yes (refusal 8 0) _ h)

      module _ (alike : all_have (length level₀) (length cells₀ ∷ length volume₀ ∷ []) ≡ true) where
        pub one_length : OneLength level₀ cells₀ volume₀
        one_length =
            let a = all_are (length level₀) (length cells₀ ∷ length volume₀ ∷ []) alike in
            record { cells_long = a.0; volume_long = a.1.0 }

        pub ponds_long : length ponds₀ ≡ size g
        ponds_long = sheets.results_have.0

        -- what 9 is asked after
        before_9 : Gate
            (λ later. ask_outlets g (length e ∷ []) (length ponds₀ ∷ [])
            (ask (all_have (length level₀) (length cells₀ ∷ length volume₀ ∷ [])) (refusal 8 0) later))
            (Sheets g (length e ∷ []) (length ponds₀ ∷ []) × (all_have (length level₀) (length cells₀ ∷ length volume₀ ∷ []) ≡ true))
        before_9 = both before_columns (one (all_have (length level₀) (length cells₀ ∷ length volume₀ ∷ [])) 8 0 (omega arith))

        yes_to_8 : accepted ≡ ask_outlets g (length e ∷ []) (length ponds₀ ∷ [])
            (ask (all_have (length level₀) (length cells₀ ∷ length volume₀ ∷ [])) (refusal 8 0) accepted)
        yes_to_8 = next_yes before_columns first yes (refusal 8 0) accepted alike

        pub promise_room : leb (4 * size g) (length work₀) ≡ false
            → PondsPromise g e ponds₀ ponds₀ level₀ level₀ cells₀ cells₀ volume₀ volume₀ work₀ work₀
            (record { number = 9; place = 0; count = 0 })
        unfolding ponds_check ask_work
        promise_room h = refusal_promise 9 0 (λ z. omega arith) (next_no before_9 yes_to_8 refl (refusal 9 0) _ h)

        module _ (roomy : leb (4 * size g) (length work₀) ≡ true) where
          pub sizes : Sizes g e (length work₀)
          sizes =
              let c = sheets.fits.cells in
              let k = sheets.fits.cols_high in
              record {
                few = omega arith;
                narrow = omega arith;
                long = sheets.inputs_have.0;
                room = leb-true (4 * size g) (length work₀) roomy;
              }

          pub promise_settled : {ponds₁ : List ℕ} {level₁ : List ℤ} {cells₁ volume₁ work₁ : List ℕ} {r : Counted}
              → Settled g e ponds₀ ponds₁ level₀ level₁ cells₀ cells₁ volume₀ volume₁ (ask_reach g e (asked14 g e level₀)) r
              → length work₁ ≡ length work₀
              → PondsPromise g e ponds₀ ponds₁ level₀ level₁ cells₀ cells₁ volume₀ volume₁ work₀ work₁ r
          unfolding ponds_check ask_work
          promise_settled {ponds₁} {level₁} {volume₁ = volume₁} {r = r} S same =
              record {
                answer = S.answer ∙ next_yes before_9 yes_to_8 refl (refusal 9 0) _ roomy;
                count = S.count;
                ponds = S.ponds;
                level = S.level;
                cells = S.cells;
                volume = S.volume;
                work = record { same_length = same; untouched = λ t. absurd (S.late t) };
                one_pond = λ t c d k q. let is = made _ _ S.ponds t in (
                  λ p. same_pond g e sizes.long S.range c d k (rw is at p) (rw is at q),
                  λ p. rw is (one_number g e sizes.long S.range c d p) ∙ q,
                );
                one_level = λ t c k q.
                    one_level g e sizes.long S.range level₀ c k (ap (λ (l : List ℕ). get_or l c 0) (sym (made _ _ S.ponds t)) ∙ q)
                    ∙ ap (λ (l : List ℤ). at l k) (sym (made _ _ S.level t));
                difference = λ t c. difference g e sizes.long S.range c;
                total = λ t. rw (made _ _ S.count t) (rw (made _ _ S.volume t) (total_column g e sizes.long S.range volume₀));
                no_wrap = λ t. no_wrap g e sizes.long S.range sheets.fits.cells;
              }
            where
              -- what stands where the call accepts
              made : {A : Type 0} {z : A} (x y : A) → z ≡ cond (is_accepted (of_counted r)) x y → T (is_accepted (of_counted r)) → z ≡ x
              made x y q t = q ∙ cond_true x y (T_true (is_accepted (of_counted r)) t)
