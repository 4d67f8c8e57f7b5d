-- Ports and addresses are told apart by the first byte, the number and the last colon.
use Rattle.std.proofs.Common.{◌≡◌, ℕ, zero, suc, ◌<◌, ◌^◌, List, [], ◌∷◌, ◌++◌, length, get_or, drop, refl, sym, ap, ◌∙◌, arith, Result, Ok, Err, lit<, subst, length-append}
use Rattle.std.specs.Prelude.{is_ok, IfSome, IfNone, Some, None, MatchOption, ◌==◌, true}
use Rattle.std.specs.declared.option.Option.{Option}
use Rattle.std.specs.Fmt.{decimal}
use Rattle.std.specs.Str.Parse.{ParsesUnsigned, AllDigits, digits_value}
use Rattle.std.proofs.lemmas.Str.Parse.{IsNumeralModel, numerals_by_value, tells_digits, parse_plain, digit_at}
use Rattle.std.proofs.lemmas.Fmt.{decimal-digits_value, first_decimal, parse-decimal, digits_decimal, decimal_digit}
use Rattle.std.specs.Str.{NoCharPasses}
use Rattle.std.specs.Str.Pattern.{RFindsChar, SplitsAroundMatch}
use Rattle.std.proofs.lemmas.Str.Pattern.{NoCharPasses-char}
use denote.Ref.{Bor}
use Rattle.std.proofs.Math.Seq.{get_or-append_seam}
use Rattle.n41_run.specs.Words.{IsPort, IsAddress}

own : IsNumeralModel (AllDigits 10) (digits_value 10)
own = numerals_by_value _ tells_digits

positive : (n : ℕ) (bytes : List ℕ) → decimal n ≡ bytes → (get_or bytes 0 0 ≡ 48 → ⊥) → 0 < n
positive zero bytes e no_zero = absurd (no_zero (ap (λ (b : List ℕ). get_or b 0 0) (sym e ∙ decimal_digit 0 (lit< tt))))
positive (suc n) bytes e no_zero = omega arith

-- a numeral that begins with neither 0 nor a plus is a port where it fits
pub port_of_parsed : {E : Type 0} (bytes : List ℕ) (r : Result ℕ E) → ParsesUnsigned 16 10 bytes r → (get_or bytes 0 0 ≡ 48 → ⊥) → (get_or bytes 0 0 ≡ 43 → ⊥) → is_ok r ≡ true → IsPort bytes
port_of_parsed {E} bytes (Ok n) parsed no_zero no_plus ok =
    let read = parse_plain own {E = E} 16 bytes (Ok n) parsed no_plus in
    let text : decimal (digits_value 10 bytes) ≡ bytes = decimal-digits_value own bytes read.0.0 read.0.1 (λ e. absurd (no_zero e)) (omega (arith, read.0.2)) in
    record {
      number = digits_value 10 bytes;
      from_one = positive (digits_value 10 bytes) bytes text no_zero;
      in_range = read.0.2;
      text = sym text;
    }
port_of_parsed {E} bytes (Err e) parsed no_zero no_plus ok = cc

pub parsed_port : {E : Type 0} (bytes : List ℕ) (r : Result ℕ E) → ParsesUnsigned 16 10 bytes r → IsPort bytes → is_ok r ≡ true
parsed_port bytes r parsed port =
    ap is_ok (parse-decimal 16 port.number bytes r port.in_range (omega (arith, port.in_range)) port.text parsed)

pub port_begins : (bytes : List ℕ) → IsPort bytes → 48 < get_or bytes 0 0
port_begins bytes port =
    let first : 48 < get_or (decimal port.number) 0 0 = first_decimal port.number port.from_one (omega (arith, port.in_range)) in
    rw port.text first

-- ---- the last colon

abbrev pub HasNoColon : List ℕ → Type 0
HasNoColon bytes = (i : ℕ) → i < length bytes → get_or bytes i 0 ≡ 58 → ⊥

none_in : (bytes rest : List ℕ) → NoCharPasses (λ d. d == 58) bytes → rest ≡ bytes → HasNoColon rest
none_in bytes rest none e = rw e (λ i lt. NoCharPasses-char 58 bytes i none (lit< tt) lt)

-- behind the last colon there is none
pub none_behind : (text : List ℕ) (r : Option (Bor (List ℕ) × Bor (List ℕ))) → MatchOption r (NoCharPasses (λ d. d == 58) text) (λ x. SplitsAroundMatch (RFindsChar 58) text x.0.now x.1.now) → IfSome r (λ x. HasNoColon x.1.now)
none_behind text None h = tt
none_behind text (Some x) h = none_in (drop h.1 text) x.1.now h.2.0 h.4

pub none_at_all : (text : List ℕ) (r : Option (Bor (List ℕ) × Bor (List ℕ))) → MatchOption r (NoCharPasses (λ d. d == 58) text) (λ x. SplitsAroundMatch (RFindsChar 58) text x.0.now x.1.now) → IfNone r (HasNoColon text)
none_at_all text None h = none_in text text h refl
none_at_all text (Some x) h = tt

digits_have_none : (n : ℕ) → n < 2 ^ 64 → HasNoColon (decimal n)
digits_have_none n small i lt e =
    let digit = digit_at (decimal n) i (digits_decimal own n small) lt in
    omega (arith, digit.0, digit.1)

pub port_has_none : (bytes : List ℕ) → IsPort bytes → HasNoColon bytes
port_has_none bytes port = rw port.text (digits_have_none port.number (omega (arith, port.in_range)))

has_one : (front back : List ℕ) → HasNoColon (front ++ (58 ∷ back)) → ⊥
has_one front back none = none (length front) (omega (arith, length-append front (58 ∷ back))) (get_or-append_seam front 58 back 0)

pub same_split : (a b x y : List ℕ) → a ++ (58 ∷ b) ≡ x ++ (58 ∷ y) → HasNoColon b → HasNoColon y → (a ≡ x) × (b ≡ y)
same_split [] b [] y e p q = (refl, cc)
same_split [] b (x ∷ xs) y e p q =
    let tail : b ≡ xs ++ (58 ∷ y) = cc in
    absurd (has_one xs y (subst HasNoColon tail p))
same_split (a ∷ more) b [] y e p q =
    let tail : y ≡ more ++ (58 ∷ b) = cc in
    absurd (has_one more b (subst HasNoColon tail q))
same_split (a ∷ more) b (x ∷ xs) y e p q =
    let tail : more ++ (58 ∷ b) ≡ xs ++ (58 ∷ y) = cc in
    let parts = same_split more b xs y tail p q in
    (cc parts.0, parts.1)

pub address_from : (text host port : List ℕ) → text ≡ host ++ (58 ∷ port) → 0 < length host → IsPort port → IsAddress text
address_from text host port e some lawful = record { host = host; port = port; some_host = some; lawful_port = lawful; text = e }

-- an address is split at its last colon
pub address_parts : (text host port : List ℕ) → text ≡ host ++ (58 ∷ port) → HasNoColon port → IsAddress text → (0 < length host) × IsPort port
address_parts text host port e none address =
    let same = same_split address.host address.port host port (sym address.text ∙ e) (port_has_none address.port address.lawful_port) none in
    (rw (sym same.0) address.some_host, rw (sym same.1) address.lawful_port)

pub no_address : (text : List ℕ) → HasNoColon text → IsAddress text → ⊥
no_address text none address = has_one address.host address.port (subst HasNoColon address.text none)
