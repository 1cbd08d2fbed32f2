-- What the pass keeps. A cell with nothing awaited is closed, and its count and 1 handed to the cell that it flows into, if there is one:
-- the count so far stays the sum over the donors that are done, and what is still to be handed on does not grow.
use mathlib.Core.Path.{◌≡◌, refl, sym, ◌∙◌, ap}
use mathlib.Core.Logic.{⊎_elim}
use mathlib.Core.Bool.{Bool, true, false, not, cond, ◌&&◌}
use Prim.Native.Nat.{ℕ, ◌+◌, ◌-◌, ◌≤◌, ◌<◌}
use native.Mathlib.Omega.{arith}
use lib.Dec.{eqb, ltb}
use borrow.Author.Tests.{eq-eqb, ne_eqb, ltb-true, ltb-false}
use Rattle.grid.specs.Below.{sum_below, count_below}
use Rattle.count_laws.specs.Passing.{awaited, tally, is_done, undone, Passing}
use Rattle.grid_laws.proofs.Tests.{test, true_false, cond_true}
use Rattle.grid_laws.proofs.Below.{sum_ext, part_≤_sum}
use Rattle.count_laws.proofs.Sums.{same?, none_waiting, sum_more, sum_two}
use Rattle.count_laws.proofs.Words.{ready_awaits, ready_tally, ready_waiting, closed_done, closed_tally, handed_awaits}
use Rattle.count_laws.proofs.Words.{handed_tally, handed_waiting}

-- one number of a count
one_of : (b e : Bool) → b ≡ true → e ≡ false → ◌≡◌ {A = ℕ} (cond (b && not e) 1 0) 1
one_of b e p q = rw (p, q)

none_done : (b e : Bool) → e ≡ true → ◌≡◌ {A = ℕ} (cond (b && not e) 1 0) 0
none_done true e q = rw q
none_done false e q = refl

none_other : (b e : Bool) (v : ℕ) → b ≡ false → cond (b && e) v 0 ≡ 0
none_other b e v p = rw p

all_of : (b e : Bool) (v : ℕ) → b ≡ true → e ≡ true → cond (b && e) v 0 ≡ v
all_of b e v p q = rw (p, q)

-- only the marks of cells are looked at
pub same_passing : (n : ℕ) (mark mark' word : ℕ → ℕ) → ((d : ℕ) → d < n → mark' d ≡ mark d) → Passing n mark word → Passing n mark' word
unfolding count_below
same_passing n mark mark' word e P =
    record {
      to_come =
          λ c l f.
          P.to_come c l f
          ∙ sum_ext n (λ d. cond (eqb (mark d) c && not (is_done (word d))) 1 0) (λ d. cond (eqb (mark' d) c && not (is_done (word d))) 1 0)
          (λ d h. rw (e d h));
      so_far =
          λ c l.
          P.so_far c l
          ∙ sum_ext n (λ d. cond (eqb (mark d) c && is_done (word d)) (tally (word d) + 1) 0)
          (λ d. cond (eqb (mark' d) c && is_done (word d)) (tally (word d) + 1) 0) (λ d h. rw (e d h));
      donors_done = λ c d l h q t. P.donors_done c d l h (sym (e d h) ∙ q) t;
      room = P.room;
    }

module _ (n : ℕ) (mark word : ℕ → ℕ) (P : Passing n mark word) (c : ℕ) (on : c < n) (ready : word c < 16777216) where
  -- the donors of a cell with nothing awaited are done
  pub ready_donors_done : (d : ℕ) → d < n → mark d ≡ c → is_done (word d) ≡ true
  unfolding count_below
  ready_donors_done d l e =
      ⊎_elim
      (λ t. t)
      (λ f.
      let a = part_≤_sum n (λ d. cond (eqb (mark d) c && not (is_done (word d))) 1 0) d l in
      let b = P.to_come c on (ready_waiting (word c) ready) in
      let w = ready_awaits (word c) ready in
      let v = one_of (eqb (mark d) c) (is_done (word d)) (eq-eqb (mark d) c e) f in
      let z : ⊥ = omega arith in absurd z)
      (test (is_done (word d)))

  pub no_ring_of_one : mark c ≡ c → ⊥
  no_ring_of_one e = true_false (ready_donors_done c on e) (ready_waiting (word c) ready)

  module _ (far : mark c < n) where
    pub receiver_waits : is_done (word (mark c)) ≡ false
    receiver_waits =
        ⊎_elim (λ t. true_false (P.donors_done (mark c) c far on refl t) (ready_waiting (word c) ready)) (λ f. f)
        (test (is_done (word (mark c))))

    pub receiver_awaits : 1 ≤ awaited (word (mark c))
    unfolding count_below
    receiver_awaits =
        let a = part_≤_sum n (λ d. cond (eqb (mark d) (mark c) && not (is_done (word d))) 1 0) c on in
        let b = P.to_come (mark c) far receiver_waits in
        let v = one_of (eqb (mark c) (mark c)) (is_done (word c)) (eq-eqb (mark c) (mark c) refl) (ready_waiting (word c) ready) in
        omega arith

    -- no count outgrows its place in the word
    pub receiver_room : n < 16777216 → tally (word (mark c)) + word c + 1 < 16777216
    receiver_room small =
        let a = sum_two n c (mark c) (λ c. cond (is_done (word c)) 0 (tally (word c) + 1)) on far (λ e. no_ring_of_one (sym e)) in
        let r = P.room in
        let u : cond (is_done (word c)) 0 (tally (word c) + 1) ≡ tally (word c) + 1 = rw (ready_waiting (word c) ready) in
        let v : cond (is_done (word (mark c))) 0 (tally (word (mark c)) + 1) ≡ tally (word (mark c)) + 1 = rw receiver_waits in
        let t = ready_tally (word c) ready in
        omega arith

  module _ (small : n < 16777216) (word' : ℕ → ℕ)
      (closed : word' c ≡ word c + 4278190080)
      (handed : mark c < n → word' (mark c) ≡ word (mark c) - 16777216 + word c + 1)
      (kept : (k : ℕ) → k < n → (k ≡ c → ⊥) → (k ≡ mark c → ⊥) → word' k ≡ word k) where
    now_done : is_done (word' c) ≡ true
    now_done = ap is_done closed ∙ closed_done (word c)

    at_receiver : (k : ℕ) → k < n → k ≡ mark c → mark c < n
    at_receiver k l e = omega arith

    same_done : (k : ℕ) → k < n → (k ≡ c → ⊥) → is_done (word' k) ≡ is_done (word k)
    same_done k l f = ⊎_elim here (λ g. ap is_done (kept k l f g)) (same? k (mark c))
      where
        here : k ≡ mark c → is_done (word' k) ≡ is_done (word k)
        here e =
            let far = at_receiver k l e in
            ap (λ (x : ℕ). is_done (word' x)) e ∙ ap is_done (handed far)
            ∙ handed_waiting (word (mark c)) (word c) (receiver_waits far) (receiver_awaits far) (receiver_room far small)
            ∙ sym (receiver_waits far) ∙ ap (λ (x : ℕ). is_done (word x)) (sym e)

    same_tally : (k : ℕ) → k < n → (k ≡ mark c → ⊥) → tally (word' k) ≡ tally (word k)
    same_tally k l g =
        ⊎_elim
        (λ e. ap (λ (x : ℕ). tally (word' x)) e ∙ ap tally closed ∙ closed_tally (word c) ∙ ap (λ (x : ℕ). tally (word x)) (sym e))
        (λ f. ap tally (kept k l f g))
        (same? k c)

    -- the term of one donor d of k, before and after
    to_come_term : (k d : ℕ) → d < n → (d ≡ c → mark c ≡ k → ⊥)
        → ◌≡◌ {A = ℕ} (cond (eqb (mark d) k && not (is_done (word' d))) 1 0) (cond (eqb (mark d) k && not (is_done (word d))) 1 0)
    to_come_term k d l f =
        ⊎_elim
        (λ e. let q : eqb (mark d) k ≡ false = ne_eqb (mark d) k (λ r. f e (ap mark (sym e) ∙ r)) in rw q)
        (λ g. ap (λ (x : Bool). cond (eqb (mark d) k && not x) 1 0) (same_done d l g))
        (same? d c)

    so_far_term : (k d : ℕ) → d < n → (d ≡ c → mark c ≡ k → ⊥)
        → cond (eqb (mark d) k && is_done (word' d)) (tally (word' d) + 1) 0
        ≡ cond (eqb (mark d) k && is_done (word d)) (tally (word d) + 1) 0
    so_far_term k d l f = ⊎_elim at_c past_c (same? d c)
      where
        at_c : d ≡ c → cond (eqb (mark d) k && is_done (word' d)) (tally (word' d) + 1) 0
            ≡ cond (eqb (mark d) k && is_done (word d)) (tally (word d) + 1) 0
        at_c e = let q : eqb (mark d) k ≡ false = ne_eqb (mark d) k (λ r. f e (ap mark (sym e) ∙ r)) in rw q

        past_c : (d ≡ c → ⊥) → cond (eqb (mark d) k && is_done (word' d)) (tally (word' d) + 1) 0
            ≡ cond (eqb (mark d) k && is_done (word d)) (tally (word d) + 1) 0
        past_c g =
            ⊎_elim
            (λ e.
            let w : is_done (word d) ≡ false = ap (λ (x : ℕ). is_done (word x)) e ∙ receiver_waits (at_receiver d l e) in
            none_waiting (eqb (mark d) k) (is_done (word' d)) (tally (word' d) + 1) (same_done d l g ∙ w)
            ∙ sym (none_waiting (eqb (mark d) k) (is_done (word d)) (tally (word d) + 1) w))
            (λ h. rw (same_done d l g, same_tally d l h))
            (same? d (mark c))

    pub pass_one : Passing n mark word'
    unfolding count_below
    pass_one = record { to_come = awaits; so_far = tallies; donors_done = after; room = fits }
      where
        waits_c : is_done (word c) ≡ false
        waits_c = ready_waiting (word c) ready

        awaits : (k : ℕ) → k < n → is_done (word' k) ≡ false →
            awaited (word' k) ≡ sum_below n (λ d. cond (eqb (mark d) k && not (is_done (word' d))) 1 0)
        awaits k l f = ⊎_elim here there (same? k (mark c))
          where
            not_c : k ≡ c → ⊥
            not_c e = true_false now_done (ap (λ (x : ℕ). is_done (word' x)) (sym e) ∙ f)

            waits_k : is_done (word k) ≡ false
            waits_k = sym (same_done k l not_c) ∙ f

            here : k ≡ mark c → awaited (word' k) ≡ sum_below n (λ d. cond (eqb (mark d) k && not (is_done (word' d))) 1 0)
            here e =
                let far : mark c < n = at_receiver k l e in
                let a = P.to_come k l waits_k in
                let s =
                sum_more n c 1 (λ d. cond (eqb (mark d) k && not (is_done (word' d))) 1 0)
                (λ d. cond (eqb (mark d) k && not (is_done (word d))) 1 0) on
                (one_of (eqb (mark c) k) (is_done (word c)) (eq-eqb (mark c) k (sym e)) waits_c
                ∙ ap (λ (x : ℕ). x + 1) (sym (none_done (eqb (mark c) k) (is_done (word' c)) now_done)))
                (λ d h g. sym (to_come_term k d h (λ q r. g q))) in
                let w : awaited (word' k) + 1 ≡ awaited (word k) =
                rw e (ap (λ (x : ℕ). awaited x + 1) (handed far)
                ∙ handed_awaits (word (mark c)) (word c) (receiver_awaits far) (receiver_room far small)) in
                omega arith

            there : (k ≡ mark c → ⊥) → awaited (word' k) ≡ sum_below n (λ d. cond (eqb (mark d) k && not (is_done (word' d))) 1 0)
            there g =
                ap awaited (kept k l not_c g) ∙ P.to_come k l waits_k
                ∙ sum_ext n (λ d. cond (eqb (mark d) k && not (is_done (word d))) 1 0)
                (λ d. cond (eqb (mark d) k && not (is_done (word' d))) 1 0)
                (λ d h. sym (to_come_term k d h (λ q r. g (sym r))))

        tallies : (k : ℕ) → k < n → tally (word' k) ≡ sum_below n (λ d. cond (eqb (mark d) k && is_done (word' d)) (tally (word' d) + 1) 0)
        tallies k l = ⊎_elim here there (same? k (mark c))
          where
            here : k ≡ mark c → tally (word' k) ≡ sum_below n (λ d. cond (eqb (mark d) k && is_done (word' d)) (tally (word' d) + 1) 0)
            here e =
                let far : mark c < n = at_receiver k l e in
                let a = P.so_far k l in
                let t : tally (word' c) + 1 ≡ word c + 1 =
                ap (λ (x : ℕ). x + 1) (same_tally c on (λ q. no_ring_of_one (sym q)) ∙ ready_tally (word c) ready) in
                let s =
                sum_more n c (word c + 1) (λ d. cond (eqb (mark d) k && is_done (word d)) (tally (word d) + 1) 0)
                (λ d. cond (eqb (mark d) k && is_done (word' d)) (tally (word' d) + 1) 0) on
                (let u = all_of (eqb (mark c) k) (is_done (word' c)) (tally (word' c) + 1) (eq-eqb (mark c) k (sym e)) now_done in
                let v = none_waiting (eqb (mark c) k) (is_done (word c)) (tally (word c) + 1) waits_c in
                omega arith)
                (λ d h g. so_far_term k d h (λ q r. g q)) in
                let w : tally (word' k) ≡ tally (word k) + word c + 1 =
                rw e (ap tally (handed far) ∙ handed_tally (word (mark c)) (word c) (receiver_awaits far) (receiver_room far small)) in
                omega arith

            there : (k ≡ mark c → ⊥) →
                tally (word' k) ≡ sum_below n (λ d. cond (eqb (mark d) k && is_done (word' d)) (tally (word' d) + 1) 0)
            there g =
                same_tally k l g ∙ P.so_far k l
                ∙ sum_ext n (λ d. cond (eqb (mark d) k && is_done (word d)) (tally (word d) + 1) 0)
                (λ d. cond (eqb (mark d) k && is_done (word' d)) (tally (word' d) + 1) 0)
                (λ d h. sym (so_far_term k d h (λ q r. g (sym r))))

        after : (k d : ℕ) → k < n → d < n → mark d ≡ k → is_done (word' k) ≡ true → is_done (word' d) ≡ true
        after k d l h e t =
            ⊎_elim
            (λ q. ap (λ (x : ℕ). is_done (word' x)) q ∙ now_done)
            (λ f. same_done d h f ∙
            ⊎_elim (λ q. ready_donors_done d h (e ∙ q)) (λ g. P.donors_done k d l h e (sym (same_done k l g) ∙ t)) (same? k c))
            (same? d c)

        -- what is to be handed on, with the cell in hand left out
        rest : ℕ → ℕ
        rest k = cond (eqb k c) 0 (cond (is_done (word k)) 0 (tally (word k) + 1))

        rest_c : rest c ≡ 0
        rest_c = rw (eq-eqb c c refl)

        rest_k : (k : ℕ) → (k ≡ c → ⊥) → cond (is_done (word k)) 0 (tally (word k) + 1) ≡ rest k
        rest_k k f = rw (ne_eqb k c f)

        kept_term : (k : ℕ) → k < n → (k ≡ mark c → ⊥) → cond (is_done (word' k)) 0 (tally (word' k) + 1) ≡ rest k
        kept_term k l g =
            ⊎_elim
            (λ e.
            let q : is_done (word' k) ≡ true = ap (λ (x : ℕ). is_done (word' x)) e ∙ now_done in
            cond_true 0 (tally (word' k) + 1) q ∙ sym rest_c ∙ ap rest (sym e))
            (λ f. rw (same_done k l f, same_tally k l g) (rest_k k f))
            (same? k c)

        before : sum_below n (λ k. cond (is_done (word k)) 0 (tally (word k) + 1)) ≡ sum_below n rest + (word c + 1)
        before =
            sum_more n c (word c + 1) rest (λ k. cond (is_done (word k)) 0 (tally (word k) + 1)) on
            (let a : cond (is_done (word c)) 0 (tally (word c) + 1) ≡ tally (word c) + 1 = rw waits_c in
            let t = ready_tally (word c) ready in let z = rest_c in omega arith)
            (λ k l f. rest_k k f)

        fits : sum_below n (λ k. cond (is_done (word' k)) 0 (tally (word' k) + 1)) ≤ n
        fits = ⊎_elim (λ y. onward (ltb-true (mark c) n y)) (λ y. ends (ltb-false (mark c) n y)) (test (ltb (mark c) n))
          where
            onward : mark c < n → sum_below n (λ k. cond (is_done (word' k)) 0 (tally (word' k) + 1)) ≤ n
            onward far =
                let f : mark c ≡ c → ⊥ = no_ring_of_one in
                let s =
                sum_more n (mark c) (word c + 1) rest (λ k. cond (is_done (word' k)) 0 (tally (word' k) + 1)) far
                (let a : cond (is_done (word' (mark c))) 0 (tally (word' (mark c)) + 1) ≡ tally (word' (mark c)) + 1 =
                rw (same_done (mark c) far f ∙ receiver_waits far) in
                let v : cond (is_done (word (mark c))) 0 (tally (word (mark c)) + 1) ≡ tally (word (mark c)) + 1 =
                rw (receiver_waits far) in
                let b = rest_k (mark c) f in
                let t : tally (word' (mark c)) ≡ tally (word (mark c)) + word c + 1 =
                ap tally (handed far) ∙ handed_tally (word (mark c)) (word c) (receiver_awaits far) (receiver_room far small) in
                omega arith)
                kept_term in
                let b = before in
                let r = P.room in
                omega arith

            ends : n ≤ mark c → sum_below n (λ k. cond (is_done (word' k)) 0 (tally (word' k) + 1)) ≤ n
            ends far =
                let s = sum_ext n (λ k. cond (is_done (word' k)) 0 (tally (word' k) + 1)) rest
                (λ k l. kept_term k l (λ e. let z : ⊥ = omega arith in absurd z)) in
                let b = before in
                let r = P.room in
                omega arith

    -- one cell less to do
    pub pass_less : undone n word ≡ undone n word' + 1
    unfolding undone count_below
    pass_less =
        sum_more n c 1 (λ k. cond (not (is_done (word' k))) 1 0) (λ k. cond (not (is_done (word k))) 1 0) on
        (rw (now_done, ready_waiting (word c) ready))
        (λ k l f. rw (same_done k l f))
