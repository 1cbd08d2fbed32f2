-- The round trips, about the lists that calls leave, by their promises.
use mathlib.Core.Path.{◌≡◌, refl, sym, ◌∙◌, ap, ap₂, subst}
use mathlib.Core.Bool.{true}
use mathlib.Core.List.{List, ◌++◌, map}
use Prim.Native.Nat.{ℕ, ◌*◌, ◌≤◌}
use native.Mathlib.Omega.{arith}
use lib.Dec.{T}
use lib.IntN.{ℤ}
use lib.ListN.{length, take, drop, length-map}
use lib.Seq.{take-append_seam}
use Rattle.grid.specs.declared.Grid.{Grid}
use Rattle.grid.specs.declared.Answer.{Answer}
use Rattle.grid.specs.declared.Counted.{Counted}
use Rattle.grid.specs.Checks.{accepted, is_accepted, of_counted, of_dimensions}
use Rattle.grid.specs.Frames.{text_grid, text_length, text_sheet, elevation_text}
use Rattle.grid.specs.Writing.{raised}
use Rattle.grid.specs.Promises.{WritePromise}
use Rattle.grid.specs.RoundTrips.{WriteThenRead, ReadThenWrite, EqualBytes}
use Rattle.grid_laws.proofs.Tests.{T_true, cond_true}
use Rattle.checks.proofs.Gate.{number_zero}
use Rattle.text_laws.proofs.Asked.{announces, read_asked, read_rows, read_cols, read_sheet}
use Rattle.writing_laws.proofs.Asked.{write_passes, same_printable}
use Rattle.writing_laws.proofs.Rewritten.{read_writes_back, read_printable, text_tells, text_of_same}

-- ---- write, then read

pub write_then_read : WriteThenRead
write_then_read g e text₀ text₁ w P ok sheet₀ sheet₁ r R room =
    let b = P.reads_back ok in
    let a : of_dimensions r ≡ accepted = R.answer ∙ b.accepts (length sheet₀) room in
    let y : is_accepted (of_dimensions r) ≡ true = ap is_accepted a in
    let number : r.number ≡ 0 = ap (λ (x : Answer). x.number) a in
    let place : r.place ≡ 0 = ap (λ (x : Answer). x.place) a in
    let rows : r.rows ≡ g.rows = R.rows ∙ cond_true _ _ y ∙ b.rows in
    let cols : r.cols ≡ g.cols = R.cols ∙ cond_true _ _ y ∙ b.cols in (
      alike number place rows cols,
      R.result ∙ cond_true _ _ y ∙ ap₂ (λ (s : List ℤ) (n : ℕ). s ++ drop n sheet₀) b.elevations (ap₂ ◌*◌ b.rows b.cols),
    )
  where
    alike : {a b c d : ℕ} → r.number ≡ a → r.place ≡ b → r.rows ≡ c → r.cols ≡ d →
        r ≡ record { number = a; place = b; rows = c; cols = d }
    alike p q s t = rw (sym p, sym q, sym s, sym t)

-- ---- read, then write

pub read_then_write : ReadThenWrite
read_then_write text sheet₀ sheet₁ r R ok g rows cols text₀ text₁ w P room =
    let yes = number_zero (of_dimensions r) ok in
    let rs : g.rows ≡ (text_grid text).rows = rows ∙ read_rows text sheet₀ sheet₁ r R yes in
    let cs : g.cols ≡ (text_grid text).cols = cols ∙ read_cols text sheet₀ sheet₁ r R yes in
    let W = subst (λ (s : List ℤ). WritePromise g s text₀ text₁ w) (read_sheet text sheet₀ sheet₁ r R yes) P in
    let raises : elevation_text g (text_sheet text) ≡ map raised text =
    text_of_same g (text_grid text) (text_sheet text) (text_sheet text) (record { rows = rs; cols = cs; elevations = refl })
    ∙ read_writes_back text (length sheet₀) (subst (λ (a : Answer). T (is_accepted a)) R.answer ok) in
    let long : length (elevation_text g (text_sheet text)) ≡ length text = ap length raises ∙ length-map text raised in
    let announced = (announces text (read_asked text sheet₀ sheet₁ r R yes).0.shaped).announced in
    let fits : text_length (text_grid text) ≤ length text₀ = omega arith in
    let few = read_printable text (read_asked text sheet₀ sheet₁ r R yes).1 fits in
    let a : of_counted w ≡ accepted = W.answer ∙ write_passes g _ _ (same_printable g (text_grid text) rs cs few) in
    let y : is_accepted (of_counted w) ≡ true = ap is_accepted a in (
      alike (ap (λ (x : Answer). x.number) a) (ap (λ (x : Answer). x.place) a) (W.count ∙ cond_true _ _ y ∙ long),
      W.result ∙ cond_true _ _ y ∙ ap₂ (λ (t : List ℕ) (n : ℕ). t ++ drop n text₀) raises long,
    )
  where
    alike : {a b c : ℕ} → w.number ≡ a → w.place ≡ b → w.count ≡ c → w ≡ record { number = a; place = b; count = c }
    alike p q s = rw (sym p, sym q, sym s)

-- ---- write, and write another

-- the bytes that an accepted call reports
bytes : (g : Grid) (e : List ℤ) (t₀ t₁ : List ℕ) (w : Counted) → WritePromise g e t₀ t₁ w → T (is_accepted (of_counted w)) →
    take w.count t₁ ≡ elevation_text g e
bytes g e t₀ t₁ w P ok =
    let y = T_true (is_accepted (of_counted w)) ok in
    ap₂ take (P.count ∙ cond_true _ _ y) (P.result ∙ cond_true _ _ y) ∙ take-append_seam (elevation_text g e) _

pub equal_bytes : EqualBytes
equal_bytes g h e f text₀ text₁ w other₀ other₁ v P ok Q fine = (
  text_tells g h e f (P.reads_back ok) (Q.reads_back fine),
  λ s. bytes g e text₀ text₁ w P ok ∙ text_of_same g h e f s ∙ sym (bytes h f other₀ other₁ v Q fine),
)
