-- Digits, numbers and lines read back to what was written, and what reads as a line is that line's text.
use Rattle.std.proofs.Common.{◌≡◌, ℕ, ◌+◌, ◌*◌, ◌/◌, ◌%◌, ◌<◌, Bool, true, false, cond, eqb, leb, List, [], ◌∷◌, ◌++◌, length, drop, Some, None, Option, sym, refl, ap, ◌∙◌, arith, take-append-drop}
use Rattle.std.proofs.lemmas.Bool.Decides.{nat_tests}
use Rattle.run_sheet.specs.declared.lines.SheetLine.{SheetLine}
use Rattle.run_sheet.specs.Digits.{digit, value, both, pair}
use Rattle.run_sheet.specs.Texts.{written, line_of, said, Begins, Stands}

-- the value of a digit, and the digit of a value
value_digit : (d : ℕ) → d < 16 → value (digit d) ≡ Some d
value_digit d h = grind (arith, nat_tests)

digit_value : (c d : ℕ) → value c ≡ Some d → (d < 16) × (digit d ≡ c)
digit_value c d e = (grind (arith, nat_tests), grind (arith, nat_tests))

both_some : (x y : Option ℕ) (h l n : ℕ) → x ≡ Some h → y ≡ Some l → h * 16 + l ≡ n → both x y ≡ Some n
both_some x y h l n p q e = let k : both (Some h) (Some l) ≡ Some n = ap (λ n. Some n) e in cc

some_both : (x y : Option ℕ) (n : ℕ) → both x y ≡ Some n → (h : ℕ) × (l : ℕ) × (x ≡ Some h) × (y ≡ Some l) × (h * 16 + l ≡ n)
some_both None y n e = cc
some_both (Some h) None n e = cc
some_both (Some h) (Some l) n e = (h, l, refl, refl, cc)

-- the two digits of a number write it
pair_digits : (n : ℕ) → n < 256 → pair (digit (n / 16)) (digit (n % 16)) ≡ Some n
pair_digits n h =
    both_some (value (digit (n / 16))) (value (digit (n % 16))) (n / 16) (n % 16) n
    (value_digit (n / 16) (omega arith)) (value_digit (n % 16) (omega arith)) (omega arith)

-- two digits that write a number are its digits
digits_pair : (h l n : ℕ) → pair h l ≡ Some n → (n < 256) × (digit (n / 16) ≡ h) × (digit (n % 16) ≡ l)
digits_pair h l n e =
    let s = some_both (value h) (value l) n e in
    let p = digit_value h s.0 s.2 in
    let q = digit_value l s.1 s.3 in
    let x : n / 16 ≡ s.0 = omega arith in
    let y : n % 16 ≡ s.1 = omega arith in
    (omega arith, ap digit x ∙ p.1, ap digit y ∙ q.1)

line_some : (x y : Option ℕ) (l : SheetLine) → x ≡ Some l.first → y ≡ Some l.second → line_of x y ≡ Some l
line_some x y l p q = let k : line_of (Some l.first) (Some l.second) ≡ Some l = refl in cc

some_line : (x y : Option ℕ) (l : SheetLine) → line_of x y ≡ Some l → (x ≡ Some l.first) × (y ≡ Some l.second)
some_line None y l e = cc
some_line (Some f) None l e = cc
some_line (Some f) (Some s) l e = (cc, cc)

some_cond : (b : Bool) (x : Option SheetLine) (l : SheetLine) → cond b x None ≡ Some l → (b ≡ true) × (x ≡ Some l)
some_cond true x l e = (refl, e)
some_cond false x l e = cc

-- a line reads back from a text that it begins
pub said_written : (l : SheetLine) (rest : List ℕ) → l.first < 256 → l.second < 256 → said (written l ++ rest) ≡ Some l
said_written l rest f s =
    let x = written l ++ rest in
    let five : leb 5 (length x) ≡ true = grind (arith, nat_tests) in
    let two = line_some _ _ l (pair_digits l.first f) (pair_digits l.second s) in
    cc

-- a text that begins with a line reads as it
begins_said : (t : List ℕ) (l : SheetLine) → Begins t l → said t ≡ Some l
begins_said t l (f, s, e) =
    ap said (sym (take-append-drop 5 t)) ∙ ap (λ x. said (x ++ drop 5 t)) e ∙ said_written l (drop 5 t) f s

ten : (e : ℕ) → eqb e 10 ≡ true → e ≡ 10
ten e h = grind (arith, nat_tests)

same_text : (a b c d e : ℕ) (l : SheetLine) → digit (l.first / 16) ≡ a → digit (l.first % 16) ≡ b → digit (l.second / 16) ≡ c → digit (l.second % 16) ≡ d
    → e ≡ 10 → (a ∷ b ∷ c ∷ d ∷ e ∷ []) ≡ written l
same_text a b c d e l p q r s t = cc

-- what reads as a line begins with that line's text
said_begins : (t : List ℕ) (l : SheetLine) → said t ≡ Some l → Begins t l
said_begins [] l x = cc
said_begins (a ∷ []) l x = cc
said_begins (a ∷ b ∷ []) l x = cc
said_begins (a ∷ b ∷ c ∷ []) l x = cc
said_begins (a ∷ b ∷ c ∷ d ∷ []) l x = cc
said_begins (a ∷ b ∷ c ∷ d ∷ e ∷ rest) l x =
    let long = some_cond (leb 5 (length (a ∷ b ∷ c ∷ d ∷ e ∷ rest))) (cond (eqb e 10) (line_of (pair a b) (pair c d)) None) l x in
    let feed = some_cond (eqb e 10) (line_of (pair a b) (pair c d)) l long.1 in
    let two = some_line (pair a b) (pair c d) l feed.1 in
    let f = digits_pair a b l.first two.0 in
    let s = digits_pair c d l.second two.1 in
    (f.0, s.0, same_text a b c d e l f.1 f.2 s.1 s.2 (ten e feed.0))

-- what reading answers stands at the beginning of the text
pub stands_if : (t : List ℕ) (r : Option SheetLine) → r ≡ said t → Stands t r
stands_if t (Some l) e = said_begins t l (sym e)
stands_if t None e = λ l b. let f = e ∙ begins_said t l b in cc
