-- The first words: of each cell the number of its donors, no count yet, and none done.
use mathlib.Core.Path.{◌≡◌, refl, sym, ◌∙◌, ap}
use mathlib.Core.Logic.{⊎_elim}
use mathlib.Core.Bool.{Bool, true, false, not, cond, ◌&&◌}
use Prim.Native.Nat.{ℕ, ◌+◌, ◌*◌, ◌≤◌, ◌<◌}
use native.Mathlib.Omega.{arith}
use native.Mathlib.Numerals.{add-one}
use lib.Dec.{eqb}
use borrow.Author.Tests.{eq-eqb, ne_eqb}
use Rattle.grid.specs.Below.{sum_below, count_below}
use Rattle.grid_laws.proofs.Tests.{true_false, cond_true, cond_false}
use Rattle.grid_laws.proofs.Below.{sum_ext, sum_zero, count_suc, count_grows}
use Rattle.count_laws.specs.Passing.{awaited, tally, is_done, undone, DonorsTo, FewDonors, Passing}
use Rattle.count_laws.proofs.Sums.{same?, none_waiting, sum_ones}
use Rattle.count_laws.proofs.Words.{small_waiting, awaited_word, tally_word}

module _ (n : ℕ) (mark : ℕ → ℕ) where
  pub donors_none : (word : ℕ → ℕ) → ((c : ℕ) → c < n → word c ≡ 0) → DonorsTo n mark 0 word
  unfolding count_below sum_below
  donors_none word h c l = h c l

  module _ (few : FewDonors n mark) (i : ℕ) (on : i < n) (word : ℕ → ℕ) (D : DonorsTo n mark i word) where
    -- one donor more leaves room in the word
    pub donors_fit : (c : ℕ) → c < n → word c ≤ 134217728
    donors_fit c l = let a = D c l in let b = count_grows i n (λ d. eqb (mark d) c) (omega arith) in let f = few c l in omega arith

    pub donors_more : (word' : ℕ → ℕ) → (mark i < n → word' (mark i) ≡ word (mark i) + 16777216) →
        ((k : ℕ) → k < n → (k ≡ mark i → ⊥) → word' k ≡ word k)
        → DonorsTo n mark (i + 1) word'
    donors_more word' handed kept c l = ⊎_elim here there (same? c (mark i))
      where
        step : count_below (i + 1) (λ d. eqb (mark d) c) ≡ count_below i (λ d. eqb (mark d) c) + cond (eqb (mark i) c) 1 0
        step = ap (λ (x : ℕ). count_below x (λ d. eqb (mark d) c)) (add-one i) ∙ count_suc i (λ d. eqb (mark d) c)

        here : c ≡ mark i → word' c ≡ count_below (i + 1) (λ d. eqb (mark d) c) * 16777216
        here e =
            let a = D c l in
            let w : word' c ≡ word c + 16777216 = rw e (handed (let h : mark i < n = omega arith in h)) in
            let s = step in
            let o = cond_true {A = ℕ} 1 0 (eq-eqb (mark i) c (sym e)) in
            omega arith

        there : (c ≡ mark i → ⊥) → word' c ≡ count_below (i + 1) (λ d. eqb (mark d) c) * 16777216
        there f =
            let a = D c l in
            let w = kept c l f in
            let s = step in
            let o = cond_false {A = ℕ} 1 0 (ne_eqb (mark i) c (λ e. f (sym e))) in
            omega arith

  module _ (few : FewDonors n mark) (word : ℕ → ℕ) (D : DonorsTo n mark n word) where
    none_done : (c : ℕ) → c < n → is_done (word c) ≡ false
    none_done c l = small_waiting (word c) (let a = D c l in let f = few c l in omega arith)

    word_is : (c : ℕ) → c < n → word c ≡ count_below n (λ d. eqb (mark d) c) * 16777216 + 0
    word_is c l = let a = D c l in omega arith

    pub pass_begins : Passing n mark word
    unfolding count_below
    pass_begins =
        record {
          to_come =
              λ c l f.
              ap awaited (word_is c l) ∙ awaited_word (count_below n (λ d. eqb (mark d) c)) 0 (omega arith)
              ∙ sum_ext n (λ d. cond (eqb (mark d) c) 1 0) (λ d. cond (eqb (mark d) c && not (is_done (word d))) 1 0)
              (λ d h. alone (eqb (mark d) c) (is_done (word d)) (none_done d h));
          so_far =
              λ c l.
              ap tally (word_is c l) ∙ tally_word (count_below n (λ d. eqb (mark d) c)) 0 (omega arith)
              ∙ sym (sum_zero n (λ d. cond (eqb (mark d) c && is_done (word d)) (tally (word d) + 1) 0)
              (λ d h. none_waiting (eqb (mark d) c) (is_done (word d)) (tally (word d) + 1) (none_done d h)));
          donors_done = λ c d l h e t. true_false t (none_done c l);
          room =
              let a =
              sum_ext n (λ c. cond (is_done (word c)) 0 (tally (word c) + 1)) (λ c. 1)
              (λ c l.
              cond_false 0 (tally (word c) + 1) (none_done c l)
              ∙ ap (λ (x : ℕ). x + 1) (ap tally (word_is c l) ∙ tally_word (count_below n (λ d. eqb (mark d) c)) 0 (omega arith))) in
              let b = sum_ones n in
              omega arith;
        }
      where
        alone : (b e : Bool) → e ≡ false → ◌≡◌ {A = ℕ} (cond b 1 0) (cond (b && not e) 1 0)
        alone true e q = rw q
        alone false e q = refl

    pub all_undone : undone n word ≡ n
    unfolding undone count_below
    all_undone = sum_ext n (λ c. cond (not (is_done (word c))) 1 0) (λ c. 1) (λ c l. rw (none_done c l)) ∙ sum_ones n
