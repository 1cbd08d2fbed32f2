-- What a step of the printing leaves.
use Rattle.std.specs.Prelude.{◌≡◌, List, ℕ, ◌+◌, length}
use Rattle.std.proofs.lemmas.List.Edits.{sets}

-- `text`, of `width` bytes, stored from place `from` on, and the place after it handed on
pub record Put (text : List ℕ) (width from : ℕ) (out₀ out₁ : List ℕ) (next : ℕ) : Type 0 where
  pub width_of_text : length text ≡ width
  pub next_place : next ≡ from + width
  pub stored : out₁ ≡ sets out₀ from text
