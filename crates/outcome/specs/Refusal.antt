-- A refusal: its number and its place. Number 0 means that nothing was refused. See docs/CHIP.md, "Refusals".
use Rattle.std.specs.Prelude.{ℕ}

pub record Refusal : Type 0 where
  pub number : ℕ
  pub place : ℕ

abbrev pub refusal : (number place : ℕ) → Refusal
refusal n p = record { number = n; place = p }
