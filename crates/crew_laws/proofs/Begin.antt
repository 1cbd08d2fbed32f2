-- At its hand-in a trace has its whole route before it, and so at most 32 turns for each of its cells (`begins`).
use mathlib.Core.Path.{◌≡◌, sym, ◌∙◌, ap, subst}
use mathlib.Core.Bool.{true}
use mathlib.Core.Logic.{inl}
use mathlib.Core.List.{List}
use Prim.Native.Nat.{ℕ, zero, suc, ◌+◌, ◌*◌, ◌%◌, ◌<◌}
use native.Mathlib.Omega.{arith}
use lib.ListN.{length, get_or, set, length-set}
use lib.Seq.{get_or-set_same}
use Rattle.grid.specs.declared.Grid.{Grid}
use Rattle.grid.specs.Below.{last_of}
use Rattle.grid.specs.Sheet.{size}
use Rattle.grid.specs.Routes.{follow, has_code, receiver, route, first_endless}
use Rattle.grid.specs.Crews.{waiting, stands_on, next_crew, handed_in}
use Rattle.grid_laws.proofs.Tests.{true_false}
use Rattle.route_laws.specs.Ends.{EndsIn, Ends}
use Rattle.route_laws.proofs.Routes.{length_follow}
use Rattle.route_laws.proofs.Receivers.{code_below}
use Rattle.route_laws.proofs.Whole.{every_ends, whole}
use Rattle.crew_laws.specs.Going.{Within}
use Rattle.crew_laws.proofs.Turns.{wait_small, put_other}
use Rattle.crew_laws.proofs.Changes.{HandedIn, length_handed}

-- the route from a cell with a code, by the number of its cells
route_cells : (g : Grid) (codes : List ℕ) (c : ℕ) → first_endless g codes ≡ size g → length codes ≡ size g → has_code codes c ≡ true →
    (r : ℕ) × EndsIn (has_code codes) (receiver g codes) (suc r) c
route_cells g codes c e long t = go (every_ends g codes long e c)
  where
    go : Ends (has_code codes) (receiver g codes) c → (r : ℕ) × EndsIn (has_code codes) (receiver g codes) (suc r) c
    go (zero, a) = true_false t a
    go (suc r, a) = (r, a)

-- how many cells it has, and its last cell, by that number
module _ (g : Grid) (codes : List ℕ) (c r : ℕ) (long : length codes ≡ size g)
    (e : EndsIn (has_code codes) (receiver g codes) (suc r) c) where
  cells : length (route g codes c) ≡ suc r
  cells = ap length (whole g codes long c (suc r) e) ∙ length_follow (has_code codes) (receiver g codes) (suc r) c e

  -- whatever stands for the last of an empty list
  any_default : (d f : ℕ) → last_of (follow (has_code codes) (receiver g codes) (suc r) c) d
      ≡ last_of (follow (has_code codes) (receiver g codes) (suc r) c) f
  unfolding follow last_of
  any_default d f = rw e.0

  last_any : (d : ℕ) → last_of (follow (has_code codes) (receiver g codes) (suc r) c) d ≡ last_of (route g codes c) c
  last_any d = any_default d c ∙ sym (ap (λ (l : List ℕ). last_of l c) (whole g codes long c (suc r) e))

pub begins : (g : Grid) (codes s : List ℕ) (k c : ℕ) → length s ≡ 66 → HandedIn g codes s k c →
    Within g codes (handed_in s k c) k (last_of (route g codes c) c) (32 * length (route g codes c))
unfolding handed_in
begins g codes s k c long h =
    let x = route_cells g codes c h.endless h.long h.code in
    let r = x.0 in
    let b = code_below codes c h.code in
    let f = h.few in
    let small = h.crew in
    let both-set = length_handed s k c in
    let one_set : length (set s (32 + k) c) ≡ length s = length-set s (32 + k) c in
    let cell : get_or (set (set s (32 + k) c) k waiting) (32 + k) 0 ≡ c =
    put_other (set s (32 + k) c) k (32 + k) waiting (λ e. omega arith) ∙ get_or-set_same s (32 + k) c 0 (omega arith) in
    let stands : stands_on (set (set s (32 + k) c) k waiting) k ≡ c =
    ap (λ (y : ℕ). y % 4294967296) cell ∙ (let m : c < 4294967296 = omega arith in omega arith) in
    let n = cells g codes c r h.long x.1 in
    let v = wait_small (next_crew (set (set s (32 + k) c) k waiting)) k in (
      both-set ∙ long,
      inl (record {
        status = get_or-set_same (set s (32 + k) c) k waiting 0 (omega arith);
        left = r;
        ends = subst (λ (d : ℕ). EndsIn (has_code codes) (receiver g codes) (suc r) d) (sym stands) x.1;
        last_is =
            ap (λ (d : ℕ). last_of (follow (has_code codes) (receiver g codes) (suc r) d) (last_of (route g codes c) c)) stands
            ∙ last_any g codes c r h.long x.1 (last_of (route g codes c) c);
        in_time = rw n (omega arith);
      }),
    )
