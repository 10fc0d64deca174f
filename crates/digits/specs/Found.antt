-- What the code returns where Read.antt has a number for nothing: an `Option` that is `None` there.
use Rattle.std.specs.Prelude.{ℕ, cond, Option, Some, None, ◌==◌}
use Rattle.digits.specs.declared.HexNumber.{HexNumber}
use Rattle.digits.specs.Read.{Hex, no_digit}

abbrev pub digit_found : ℕ → Option ℕ
digit_found d = cond (d == no_digit) None (Some d)

abbrev pub byte_found : ℕ → Option ℕ
byte_found b = cond (b == 256) None (Some b)

abbrev pub number_found : Hex → Option HexNumber
number_found h = cond h.ok (Some (record { value = h.value; next = h.next })) None
