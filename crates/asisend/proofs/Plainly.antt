-- Plain numbers: their digits one by one, their text, and the space that ends them.
use Rattle.std.proofs.Common.{◌≡◌, ℕ, ◌+◌, ◌-◌, ◌*◌, ◌^◌, ◌<◌, ◌≤◌, min, List, ◌∷◌, ◌++◌, length, get_or, take, decimal, sym, ap, ◌∙◌, subst, inl, inr, arith, ◌≢◌}
use Rattle.std.specs.Str.Parse.{AllDigits, digits_value}
use Rattle.std.specs.Int.{IsInRange}
use Rattle.std.specs.Char.{digit_value}
use Rattle.std.proofs.lemmas.Fmt.{decimal_digit, decimal_is_IsNumeral, decimal-digits_value, first_decimal, digits_value-decimal}
use Rattle.std.proofs.lemmas.Int.Digits.{digits_more, digits_value_more}
use Rattle.std.proofs.lemmas.List.Elements.{All-from_get_or}
use Rattle.std.proofs.lemmas.Str.Parse.{IsNumeralModel, digit_at, numerals_by_value, tells_digits}
use Rattle.std.proofs.lemmas.Bool.{cases_lt}
use Rattle.std.proofs.lemmas.Bool.Decides.{nat_tests}
use Rattle.asisend.specs.Cutting.{Cuts, Lacks}
use Rattle.asisend.specs.Commands.{Fielded, Unfielded}
use Rattle.asisend.specs.Numbers.{Plain, capped, written}
use Rattle.asisend.proofs.Cuts.{lacks_none, same_cut}

pub not_digits : (bs : List ℕ) (i : ℕ) → i < length bs → (IsInRange 48 57 (get_or bs i 0) → ⊥) → AllDigits 10 bs → ⊥
not_digits bs i within out ds = out (digit_at bs i ds within)

digit_is : (c : ℕ) → 48 ≤ c → c ≤ 57 → digit_value c ≡ c - 48
digit_is c low high = grind (arith, nat_tests)

pub digit_more : (bs : List ℕ) (i v v' : ℕ) → i < length bs → 48 ≤ get_or bs i 0 → get_or bs i 0 ≤ 57 → AllDigits 10 (take i bs) → v ≡ capped (written (take i bs)) → v' ≡ min (10 * v + (get_or bs i 0 - 48)) 65535 → AllDigits 10 (take (i + 1) bs) × (v' ≡ capped (written (take (i + 1) bs)))
digit_more bs i v v' within low high ds is next =
    let d = digit_is (get_or bs i 0) low high in
    let more = digits_value_more 10 bs i within in
    (digits_more 10 bs i within ds (omega arith), omega arith)

own : IsNumeralModel (AllDigits 10) (digits_value 10)
own = numerals_by_value (AllDigits 10) tells_digits

plain_lacks : (ds : List ℕ) → Plain ds → Lacks 32 ds
plain_lacks ds p = All-from_get_or (λ b. b ≢ 32) ds 0 (λ i h e. let d = digit_at ds i p.digits h in omega (arith, d.0))

pub plain_decimal : (n : ℕ) → n < 65535 → Plain (decimal n)
plain_decimal n low =
    let h : n < 2 ^ 64 = omega arith in
    let reads = (decimal_is_IsNumeral n h).0 in
    record {
      digits = reads.1;
      some = reads.0;
      lead = λ e. elim (cases_lt 0 n) [
        | inl p ↦ absurd (omega (arith, first_decimal n p h))
        | inr p ↦ ap length (decimal_digit n (omega arith))
      ];
    }

pub plain_text : (ds : List ℕ) (v : ℕ) → Plain ds → v ≡ capped (written ds) → v < 65535 → ds ≡ decimal v
plain_text ds v p is low =
    let same : written ds ≡ v = omega arith in
    sym (decimal-digits_value own ds p.digits p.some p.lead (omega arith)) ∙ ap decimal same

pub field_text : (bs : List ℕ) (v : ℕ) (r : List ℕ) → Fielded bs v r → v < 65535 → bs ≡ decimal v ++ (32 ∷ r)
field_text bs v r f low = f.whole ∙ ap (λ ds. ds ++ (32 ∷ r)) (plain_text f.digits v f.plain f.value low)

-- a field is read in one way only
pub field_is : (bs : List ℕ) (v : ℕ) (r : List ℕ) → Fielded bs v r → (n : ℕ) (t : List ℕ) → n < 65535 → bs ≡ decimal n ++ (32 ∷ t) → (v ≡ n) × (r ≡ t)
field_is bs v r f n t low e =
    let u = same_cut 32 f.digits (decimal n) r t (plain_lacks f.digits f.plain) (plain_lacks (decimal n) (plain_decimal n low)) (sym f.whole ∙ e) in
    let w : written f.digits ≡ n = ap written u.0 ∙ digits_value-decimal own n (omega arith) in
    (f.value ∙ omega arith, u.1)

pub no_space : (bs : List ℕ) → Lacks 32 bs → Unfielded bs
no_space bs none ds r p e = lacks_none 32 ds r (subst (Lacks 32) e none)

pub no_number : (bs f b : List ℕ) → Cuts 32 bs f b → (Plain f → ⊥) → Unfielded bs
no_number bs f b c not ds r p e =
    let u = same_cut 32 f ds b r c.first (plain_lacks ds p) (sym c.whole ∙ e) in
    not (subst Plain (sym u.0) p)
