-- Which fields are names, which are numbers, and which are ceilings.
use Rattle.std.specs.Prelude.{ℕ, Bool, List, length, nat_le, ◌==◌, ◌||◌, ◌&&◌, Option, Some, None, codes, if◌then◌else◌}
use Rattle.std.specs.List.{list_all}
use Rattle.std.specs.Char.{is_ascii_digit}
use Rattle.std.specs.Str.{bytes_eq}
use Rattle.std.specs.Str.Parse.{digits_value}

-- `A` to `Z`, `a` to `z`, `0` to `9`, `_`, `-` and `.`
abbrev pub is_name_byte : ℕ → Bool
is_name_byte b =
    (nat_le 65 b && nat_le b 90) || (nat_le 97 b && nat_le b 122) || (nat_le 48 b && nat_le b 57)
    || (b == 95) || (b == 45) || (b == 46)

-- 1 to 32 such bytes
unfoldable pub is_name : List ℕ → Bool
is_name field = nat_le 1 (length field) && nat_le (length field) 32 && list_all is_name_byte field

-- 1 to 18 decimal digits
unfoldable pub is_number : List ℕ → Bool
is_number field = nat_le 1 (length field) && nat_le (length field) 18 && list_all is_ascii_digit field

-- the field of an arc that has no ceiling
abbrev pub no_ceiling : List ℕ
no_ceiling = codes "-"

-- a number, or `-` for none
unfoldable pub is_ceiling : List ℕ → Bool
is_ceiling field = bytes_eq field no_ceiling || is_number field

-- the ceiling of such a field
unfoldable pub ceiling_value : List ℕ → Option ℕ
ceiling_value field = if bytes_eq field no_ceiling then None else Some (digits_value 10 field)
