-- Hexadecimal digits: 0 to 9 and capital A to F, by their codes.
use Rattle.std.specs.Prelude.{◌≡◌, ℕ, ◌+◌, ◌-◌, ◌*◌, ◌<◌, cond, ◌&&◌, Some, None, Option, ◌≢◌, nat_le, nat_lt}

-- the code of the digit of a value below 16: 48 is '0', 65 is 'A'
abbrev pub digit : ℕ → ℕ
digit d = cond (nat_lt d 10) (d + 48) (d + 55)

-- the value of the digit with this code: 57 is '9', 70 is 'F'
abbrev pub value : ℕ → Option ℕ
value c = cond (nat_le 48 c && nat_le c 57) (Some (c - 48)) (cond (nat_le 65 c && nat_le c 70) (Some (c - 55)) None)

-- a code has the value whose digit it is, and no value where it is no value's digit
abbrev pub Valued : ℕ → Option ℕ → Type 0
Valued c (Some d) = (d < 16) × (digit d ≡ c)
Valued c None = (d : ℕ) → d < 16 → digit d ≢ c

-- the number of two values, the high one first, if there are both
abbrev pub both : Option ℕ → Option ℕ → Option ℕ
both None low = None
both (Some h) None = None
both (Some h) (Some l) = Some (h * 16 + l)

-- the number that two digits write
abbrev pub pair : ℕ → ℕ → Option ℕ
pair high low = both (value high) (value low)
