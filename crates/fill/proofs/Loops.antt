-- What the loops of the fill have done.
use mathlib.Core.Path.{◌≡◌, sym, ◌∙◌, ap}
use mathlib.Core.Bool.{Bool, false, ◌&&◌}
use mathlib.Core.Logic.{⊎_elim}
use mathlib.Core.List.{List}
use Prim.Native.Nat.{ℕ, ◌+◌, ◌<◌}
use native.Mathlib.Omega.{arith}
use lib.Dec.{ltb}
use lib.ListN.{length, get_or, set}
use lib.IntN.{ℤ}
use borrow.Author.Tests.{lt-ltb, le-ltb}
use Rattle.grid.specs.Sheet.{void, at, SixteenBits, IsElevation}
use Rattle.grid_laws.proofs.Below.{positive}
use Rattle.grid_laws.proofs.Tests.{and_false_left}
use Rattle.grid_laws.proofs.Lists.{at_set}
use Rattle.grid_laws.proofs.Cells.{all_sixteen}
use Rattle.cells.specs.Keys.{key_of}
use Rattle.fill.specs.Words.{is_unreached}

-- the first i elevations are loaded
abbrev pub LoadTo : List ℤ → List ℕ → ℕ → Type 0
LoadTo e w i = (x : ℕ) → x < i → (get_or w x 0 ≡ key_of (at e x)) × IsElevation (at e x)

pub load_more : (e : List ℤ) (w : List ℕ) (i v : ℕ) → i < length w → v ≡ key_of (at e i) → IsElevation (at e i) →
    LoadTo e w i → LoadTo e (set w i v) (i + 1)
load_more e w i v hw k r L x h =
    ⊎_elim
    (λ q. rw q.1 (rw q.0 (k, r)))
    (λ q. rw q.1 (L x (let n = q.0 in omega arith)))
    (at_set 0 w i v hw x)

pub load_end : (e : List ℤ) (w : List ℕ) → LoadTo e w (length e) → SixteenBits e
load_end e w L = all_sixteen e (λ x h. (L x h).1)

-- the first i levels are unloaded
pub unload_more : (f : ℕ → ℤ) (out : List ℤ) (i : ℕ) (v : ℤ) → i < length out → v ≡ f i → ((c : ℕ) → c < i → at out c ≡ f c) → (c : ℕ) →
    c < i + 1 → at (set out i v) c ≡ f c
unload_more f out i v h e L c l =
    ⊎_elim (λ q. q.1 ∙ rw q.0 e) (λ q. q.1 ∙ L c (let n = q.0 in omega arith)) (at_set void out i v h c)

-- ---- a word has a key and no level above it
pub no_key : (word : ℕ) → word ≡ 0 → false ≡ (ltb 0 word && ltb word 65536)
no_key word z = sym (and_false_left (ltb word 65536) (le-ltb 0 word (omega arith)))

pub by_level : (word : ℕ) → (word ≡ 0 → ⊥) → ltb word 65536 ≡ (ltb 0 word && ltb word 65536)
by_level word f = sym (ap (λ (t : Bool). t && ltb word 65536) (lt-ltb 0 word (positive word f)))

-- the first i cells are reached or void
abbrev pub ReachedTo : List ℕ → ℕ → Type 0
ReachedTo w i = (c : ℕ) → c < i → is_unreached w c ≡ false

pub unreached_here : (w : List ℕ) (c : ℕ) {r : Bool} → r ≡ (ltb 0 (get_or w c 0) && ltb (get_or w c 0) 65536) → is_unreached w c ≡ r
unfolding is_unreached
unreached_here w c q = sym q
