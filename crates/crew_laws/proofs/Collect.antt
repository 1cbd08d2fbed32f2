-- What is collected: along any list of operations a crew has no trace, or one that ends at the last cell of the route from the cell that it
-- handed in last; so no trace is ever lost.
use mathlib.Core.Path.{◌≡◌, refl, sym, ◌∙◌, ap, subst}
use mathlib.Core.Bool.{Bool, true, false, cond, ◌&&◌, ◌||◌}
use mathlib.Core.Logic.{◌⊎◌, inl, inr, ⊎_elim}
use mathlib.Core.List.{List, [], ◌∷◌, ◌++◌}
use Prim.Native.Nat.{ℕ, zero, suc, ◌+◌, ◌-◌, ◌*◌, ◌≤◌, ◌<◌}
use native.Mathlib.Omega.{arith}
use lib.Dec.{eqb, ltb}
use lib.ListN.{length, set}
use lib.Seq.{get_or-set_same}
use borrow.Author.Tests.{eqb-true, eqb-false, ltb-true, lt-ltb}
use Rattle.grid.specs.declared.Grid.{Grid}
use Rattle.grid.specs.declared.Collected.{Collected}
use Rattle.grid.specs.Below.{last_of}
use Rattle.grid.specs.Routes.{has_code, route, label_at}
use Rattle.grid.specs.Checks.{is_accepted}
use Rattle.grid.specs.Crews.{no_trace, waiting, finished, status_of, stands_on, is_on_way, is_finished, has_trace, turn, turns, hand_in_check}
use Rattle.grid.specs.Crews.{handed_in, run_check, collected, freed}
use Rattle.grid.specs.Operations.{Operation, run, hand_in, collect, after, after_all, turns_in, hands_in, hands_in_all, OutletOf}
use Rattle.grid.specs.Operations.{CollectsOutlet, NeverLost}
use Rattle.grid_laws.proofs.Tests.{test, true_false, cond_true, and_true, or_none_left, or_none_right}
use Rattle.crew_laws.specs.Going.{OnItsWay, Arrived, Within}
use Rattle.crew_laws.proofs.Turns.{idle_status}
use Rattle.crew_laws.proofs.Changes.{handed_in_lem, handed_status, freed_early, freed_status}
use Rattle.crew_laws.proofs.Along.{length_after, along_run, along_hand_in, none_handed, along_collect}
use Rattle.crew_laws.proofs.Begin.{begins}
use Rattle.crew_laws.proofs.Keeps.{none_lost}

last_join : (l m : List ℕ) (b : ℕ) → last_of (l ++ m) b ≡ last_of m (last_of l b)
unfolding last_of
last_join [] m b = refl
last_join (c ∷ l) m b = last_join l m c

-- whether a crew has a trace goes by its status
same_trace : (s t : List ℕ) (k : ℕ) → status_of t k ≡ status_of s k → has_trace s k ≡ false → has_trace t k ≡ false
unfolding has_trace is_on_way is_finished
same_trace s t k e f = ap (λ (x : ℕ). eqb x waiting || eqb x finished) e ∙ f

not_waiting : (s : List ℕ) (k : ℕ) → has_trace s k ≡ false → status_of s k ≡ waiting → ⊥
unfolding has_trace is_on_way
not_waiting s k f = eqb-false (status_of s k) waiting (or_none_left (is_on_way s k) (is_finished s k) f)

not_finished : (s : List ℕ) (k : ℕ) → has_trace s k ≡ false → is_finished s k ≡ false
unfolding has_trace
not_finished s k f = or_none_right (is_on_way s k) (is_finished s k) f

module _ (g : Grid) (codes : List ℕ) (k : ℕ) (small : k < 32) where
  -- a trace handed in at c, not yet collected, that is finished within n turns
  pub record Tracing (s : List ℕ) (c : ℕ) : Type 0 where
    pub few : length codes ≤ 4294967296
    pub code : has_code codes c ≡ true
    pub turns_left : ℕ
    pub within : Within g codes s k (last_of (route g codes c) c) turns_left

  abbrev FreeOr : List ℕ → ℕ → Type 0
  FreeOr s c = (has_trace s k ≡ false) ⊎ Tracing s c

  -- an operation on a crew without a trace
  free_turns : (n : ℕ) (s : List ℕ) → has_trace s k ≡ false → has_trace (turns g codes n s) k ≡ false
  unfolding turns
  free_turns zero s f = f
  free_turns (suc n) s f =
      let t = turns g codes n s in
      let q = free_turns n s f in
      same_trace t (turn g codes t) k (idle_status g codes t k small (not_waiting t k q)) q

  free_run : (s : List ℕ) (work n : ℕ) → has_trace s k ≡ false → has_trace (after g codes s (run work n)) k ≡ false
  unfolding after
  free_run s work n f = go (is_accepted (run_check g codes work s))
    where
      go : (t : Bool) → has_trace (cond t (turns g codes n s) s) k ≡ false
      go true = free_turns n s f
      go false = f

  free_collect : (s : List ℕ) (j : ℕ) → has_trace s k ≡ false → has_trace (freed s j) k ≡ false
  free_collect s j f = ⊎_elim (λ e. mine (eqb-true k j e)) (λ e. away (eqb-false k j e)) (test (eqb k j))
    where
      mine : k ≡ j → has_trace (freed s j) k ≡ false
      mine e = ap (λ (t : List ℕ). has_trace t k) (ap (freed s) (sym e) ∙ freed_early s k (not_finished s k f)) ∙ f

      away : (k ≡ j → ⊥) → has_trace (freed s j) k ≡ false
      away n = same_trace s (freed s j) k (freed_status s j k n) f

  -- a crew that hands nothing in keeps the cell that it handed in last
  none_new : (t m : List ℕ) (b : ℕ) → m ≡ [] → FreeOr t b → FreeOr t (last_of m b)
  unfolding last_of
  none_new t m b e f = rw e f

  -- a hand_in by a crew without a trace: its own begins one
  free_hand_in : (s : List ℕ) (work j c b : ℕ) → length s ≡ 66 → has_trace s k ≡ false →
      FreeOr (after g codes s (hand_in work j c)) (last_of (hands_in g codes k s (hand_in work j c)) b)
  unfolding after hands_in last_of
  free_hand_in s work j c b long f = go (is_accepted (hand_in_check g codes work j c s)) refl (eqb j k) refl
    where
      go : (t : Bool) → is_accepted (hand_in_check g codes work j c s) ≡ t → (u : Bool) → eqb j k ≡ u →
          FreeOr (cond t (handed_in s j c) s) (last_of (cond (u && t) (c ∷ []) []) b)
      go false e true q = inl f
      go false e false q = inl f
      go true e false q =
          let h = handed_in_lem g codes s work j c e in
          inl (same_trace s (handed_in s j c) k (handed_status s j c k small h.crew (λ z. eqb-false j k q (sym z))) f)
      go true e true q =
          let h = handed_in_lem g codes s work j c e in
          inr (record {
            few = h.few;
            code = h.code;
            turns_left = 32 * length (route g codes c);
            within =
                subst (λ (x : ℕ). Within g codes (handed_in s j c) x (last_of (route g codes c) c) (32 * length (route g codes c)))
                (eqb-true j k q) (begins g codes s j c long h);
          })

  -- the crew's own collection of a finished trace frees it
  collected_free : (s : List ℕ) → length s ≡ 66 → is_finished s k ≡ true → has_trace (freed s k) k ≡ false
  unfolding has_trace is_on_way is_finished freed
  collected_free s long e =
      let q : freed s k ≡ set s k no_trace = cond_true _ _ (and_true (lt-ltb k 32 small) e) in
      let z : status_of (freed s k) k ≡ no_trace = ap (λ (t : List ℕ). status_of t k) q ∙ get_or-set_same s k no_trace 0 (omega arith) in
      rw z

  traced_collect : (s : List ℕ) (j b : ℕ) → length s ≡ 66 → Tracing s b → FreeOr (freed s j) b
  traced_collect s j b long f = ⊎_elim (λ e. mine (eqb-true k j e)) (λ e. away (eqb-false k j e)) (test (eqb k j))
    where
      still : (t : List ℕ) → Within g codes t k (last_of (route g codes b) b) f.turns_left → FreeOr t b
      still t w = inr (record { few = f.few; code = f.code; turns_left = f.turns_left; within = w })

      away : (k ≡ j → ⊥) → FreeOr (freed s j) b
      away n = still (freed s j) (along_collect g codes k (last_of (route g codes b) b) f.few small s j f.turns_left n f.within)

      mine : k ≡ j → FreeOr (freed s j) b
      mine e =
          ⊎_elim (λ t. inl (ap (λ (i : ℕ). has_trace (freed s i) k) (sym e) ∙ collected_free s long t))
          (λ t. still (freed s j)
          (subst (λ (x : List ℕ). Within g codes x k (last_of (route g codes b) b) f.turns_left)
          (sym (ap (freed s) (sym e) ∙ freed_early s k t)) f.within)) (test (is_finished s k))

  one_operation : (s : List ℕ) (x : Operation) (b : ℕ) → length s ≡ 66 → FreeOr s b →
      FreeOr (after g codes s x) (last_of (hands_in g codes k s x) b)
  unfolding after hands_in
  one_operation s (run work n) b long (inl f) = none_new _ [] b refl (inl (free_run s work n f))
  one_operation s (run work n) b long (inr f) =
      none_new _ [] b refl
      (inr (record {
        few = f.few;
        code = f.code;
        turns_left = f.turns_left - turns_in g codes s (run work n);
        within = along_run g codes k (last_of (route g codes b) b) f.few small s work n f.turns_left f.within;
      }))
  one_operation s (hand_in work j c) b long (inl f) = free_hand_in s work j c b long f
  one_operation s (hand_in work j c) b long (inr f) =
      none_new _ _ b (none_handed g codes k (last_of (route g codes b) b) f.few small s work j c f.turns_left f.within)
      (inr (record {
        few = f.few;
        code = f.code;
        turns_left = f.turns_left;
        within = along_hand_in g codes k (last_of (route g codes b) b) f.few small s work j c f.turns_left f.within;
      }))
  one_operation s (collect j) b long (inl f) = none_new _ [] b refl (inl (free_collect s j f))
  one_operation s (collect j) b long (inr f) = none_new _ [] b refl (traced_collect s j b long f)

  all_operations : (l : List Operation) (s : List ℕ) (b : ℕ) → length s ≡ 66 → FreeOr s b →
      FreeOr (after_all g codes s l) (last_of (hands_in_all g codes k s l) b)
  unfolding after_all hands_in_all
  all_operations [] s b long f = none_new s [] b refl f
  all_operations (x ∷ l) s b long f =
      subst (FreeOr (after_all g codes s (x ∷ l)))
      (sym (last_join (hands_in g codes k s x) (hands_in_all g codes k (after g codes s x) l) b))
      (all_operations l (after g codes s x) (last_of (hands_in g codes k s x) b) (length_after g codes s x ∙ long)
      (one_operation s x b long f))

  -- a finished trace stands on the outlet
  outlet : (s : List ℕ) (c : ℕ) → FreeOr s c → is_finished s k ≡ true → OutletOf g codes c (stands_on s k)
  unfolding is_finished label_at
  outlet s c (inl f) e = true_false e (not_finished s k f)
  outlet s c (inr f) e = go f.within.1
    where
      go : OnItsWay g codes s k (last_of (route g codes c) c) f.turns_left ⊎ Arrived g codes s k (last_of (route g codes c) c) →
          OutletOf g codes c (stands_on s k)
      go (inl o) =
          let q = o.status in
          let z = eqb-true (status_of s k) finished e in
          let n : ⊥ = omega arith in
          absurd n
      go (inr a) = record { last = a.at; label = ap (λ (x : ℕ). x + 1) a.at ∙ sym (cond_true _ _ f.code) }

-- ---- the answer to a collection, by the status in it

-- by the three tests that it makes
abbrev pub answered : List ℕ → ℕ → Bool → Bool → Bool → Collected
answered s k small finished' going =
    cond small
    (cond finished' (record { number = 0; place = 0; status = finished; cell = stands_on s k })
    (record { number = 0; place = 0; status = cond going waiting no_trace; cell = 0 }))
    (record { number = 21; place = 0; status = no_trace; cell = 0 })

found : (s : List ℕ) (k : ℕ) → (collected s k).status ≡ finished →
    (k < 32) × (is_finished s k ≡ true) × ((collected s k).cell ≡ stands_on s k)
unfolding collected
found s k e = go (ltb k 32) refl (is_finished s k) refl (is_on_way s k) e
  where
    go : (t : Bool) → ltb k 32 ≡ t → (u : Bool) → is_finished s k ≡ u → (v : Bool) →
        (answered s k t u v).status ≡ finished → (k < 32) × (is_finished s k ≡ true) × ((answered s k t u v).cell ≡ stands_on s k)
    go true a true b v z = (ltb-true k 32 a, b, refl)
    go true a false b true z = absurd (let n : ⊥ = omega arith in n)
    go true a false b false z = absurd (let n : ⊥ = omega arith in n)
    go false a u b v z = absurd (let n : ⊥ = omega arith in n)

pub collects_outlet : CollectsOutlet
collects_outlet g codes s none l k b e =
    let t = after_all g codes s l in
    let f = found t k e in
    subst (OutletOf g codes (last_of (hands_in_all g codes k s l) b)) (sym f.2)
    (outlet g codes k f.0 t (last_of (hands_in_all g codes k s l) b)
    (all_operations g codes k f.0 l s b none.long (inl (none.none k f.0))) f.1)

-- ---- no run gets 23: a trace on its way stands on a cell of a route

going_on : (g : Grid) (codes : List ℕ) (k : ℕ) (small : k < 32) (s : List ℕ) (c : ℕ) → FreeOr g codes k small s c →
    status_of s k ≡ waiting → has_code codes (stands_on s k) ≡ true
going_on g codes k small s c (inl f) e = absurd (not_waiting s k f e)
going_on g codes k small s c (inr f) e = go f.within.1
  where
    go : OnItsWay g codes s k (last_of (route g codes c) c) f.turns_left ⊎ Arrived g codes s k (last_of (route g codes c) c) →
        has_code codes (stands_on s k) ≡ true
    go (inl o) = o.ends.0
    go (inr a) = let q = a.status in let z : ⊥ = omega arith in absurd z

pub never_lost : NeverLost
never_lost g codes s none l =
    none_lost codes (after_all g codes s l)
    (λ k h e. going_on g codes k h (after_all g codes s l) (last_of (hands_in_all g codes k s l) 0)
    (all_operations g codes k h l s 0 none.long (inl (none.none k h))) e)
