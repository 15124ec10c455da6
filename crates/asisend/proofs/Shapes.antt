-- Lines have one shape at most: each field is read in one way, and the names of the two kinds differ.
use Rattle.std.proofs.Common.{◌≡◌, ℕ, ◌<◌, List, ◌∷◌, ◌++◌, Ok, Err, codes, decimal, Result, sym, ap, ◌∙◌, subst, inl, inr, arith}
use Rattle.std.proofs.lemmas.List.{append_cancel_left}
use Rattle.telegram.specs.declared.answer.Answer.{Answer}
use Rattle.telegram.specs.declared.refusal.Refusal.{Refusal}
use Rattle.telegram.specs.declared.request.Request.{Request}
use Rattle.telegram.specs.Closings.{Unclosing, closing_ticks}
use Rattle.telegram.specs.Records.{RequestIn}
use Rattle.asisend.specs.declared.command.Command.{Command}
use Rattle.asisend.specs.declared.command.Telegram.{Telegram}
use Rattle.asisend.specs.declared.command.Telegram.TheVariants as telegram
use Rattle.asisend.specs.Commands.{AnswerRead, Fielded, LineRead, Made, RequestRead, Shape, Unfielded, answer_fields, request_fields, telegram_text}
use Rattle.asisend.specs.Numbers.{Plain, capped, written}
use Rattle.asisend.proofs.Plainly.{field_is, field_text, plain_decimal, plain_text}

still_out : (n : ℕ) → Unclosing (capped n) → Unclosing n
still_out n (inl h) = inl (omega arith)
still_out n (inr h) = inr (omega arith)

-- requests, field by field
module _ (bs : List ℕ) where
  pub no_control : Unfielded bs → Shape request_fields bs → ⊥
  no_control u s = u _ _ (plain_decimal s.telegram.control (omega (arith, s.telegram.one))) s.whole

  module _ (c : ℕ) (x : List ℕ) (f : Fielded bs c x) where
    control_is : (s : Shape request_fields bs) → (c ≡ s.telegram.control) × (x ≡ decimal s.telegram.address ++ (32 ∷ (decimal s.telegram.information ++ (32 ∷ s.quiet))))
    control_is s = field_is bs c x f s.telegram.control _ (omega (arith, s.telegram.one)) s.whole

    pub no_address : Unfielded x → Shape request_fields bs → ⊥
    no_address u s = u _ _ (plain_decimal s.telegram.address (omega (arith, s.telegram.low))) (control_is s).1

    module _ (a : ℕ) (y : List ℕ) (g : Fielded x a y) where
      address_is : (s : Shape request_fields bs) → (a ≡ s.telegram.address) × (y ≡ decimal s.telegram.information ++ (32 ∷ s.quiet))
      address_is s = field_is x a y g s.telegram.address _ (omega (arith, s.telegram.low)) (control_is s).1

      pub no_information : Unfielded y → Shape request_fields bs → ⊥
      no_information u s = u _ _ (plain_decimal s.telegram.information (omega (arith, s.telegram.few))) (address_is s).1

      module _ (i : ℕ) (z : List ℕ) (h : Fielded y i z) where
        information_is : (s : Shape request_fields bs) → (i ≡ s.telegram.information) × (z ≡ s.quiet)
        information_is s = field_is y i z h s.telegram.information s.quiet (omega (arith, s.telegram.few)) (address_is s).1

        pub no_closing : (Plain z → ⊥) → Shape request_fields bs → ⊥
        no_closing not s = not (subst Plain (sym (information_is s).1) s.plain)

        pub no_request : (RequestIn c a i → ⊥) → Shape request_fields bs → ⊥
        no_request out s =
            out (omega (arith, (control_is s).0, s.telegram.one), omega (arith, (address_is s).0, s.telegram.low), omega (arith, (information_is s).0, s.telegram.few))

        module _ (r : Request) (is_c : r.control ≡ c) (is_a : r.address ≡ a) (is_i : r.information ≡ i) where
          request_whole : bs ≡ request_fields r z
          request_whole =
              let third : y ≡ decimal r.information ++ (32 ∷ z) = field_text y i z h (omega (arith, r.few)) ∙ ap (λ n. decimal n ++ (32 ∷ z)) (sym is_i) in
              let second : x ≡ decimal r.address ++ (32 ∷ y) = field_text x a y g (omega (arith, r.low)) ∙ ap (λ n. decimal n ++ (32 ∷ y)) (sym is_a) in
              let first : bs ≡ decimal r.control ++ (32 ∷ x) = field_text bs c x f (omega (arith, r.one)) ∙ ap (λ n. decimal n ++ (32 ∷ x)) (sym is_c) in
              first ∙ ap (λ l. decimal r.control ++ (32 ∷ l)) (second ∙ ap (λ l. decimal r.address ++ (32 ∷ l)) third)

          pub request_read : (q : ℕ) → Plain z → q ≡ capped (written z) → (k : Result Command Refusal) → Made (telegram.Request r) q k → RequestRead bs k
          request_read q p is (Ok k) m = (r, m.0, request_whole ∙ ap (request_fields r) (plain_text z (closing_ticks k.closing) p (m.1 ∙ is) (omega (arith, k.closing.short))))
          request_read q p is (Err e) m =
              inr (m.1, (record { telegram = r; quiet = z; plain = p; whole = request_whole }, still_out (written z) (subst Unclosing is m.0)))

-- answers
module _ (bs : List ℕ) where
  pub no_nibble : Unfielded bs → Shape answer_fields bs → ⊥
  no_nibble u s = u _ _ (plain_decimal s.telegram.nibble (omega (arith, s.telegram.low))) s.whole

  module _ (n : ℕ) (z : List ℕ) (f : Fielded bs n z) where
    nibble_is : (s : Shape answer_fields bs) → (n ≡ s.telegram.nibble) × (z ≡ s.quiet)
    nibble_is s = field_is bs n z f s.telegram.nibble s.quiet (omega (arith, s.telegram.low)) s.whole

    pub no_quiet : (Plain z → ⊥) → Shape answer_fields bs → ⊥
    no_quiet not s = not (subst Plain (sym (nibble_is s).1) s.plain)

    pub no_answer : (n < 16 → ⊥) → Shape answer_fields bs → ⊥
    no_answer out s = out (omega (arith, (nibble_is s).0, s.telegram.low))

    module _ (a : Answer) (is_n : a.nibble ≡ n) where
      answer_whole : bs ≡ answer_fields a z
      answer_whole = field_text bs n z f (omega (arith, a.low)) ∙ ap (λ k. decimal k ++ (32 ∷ z)) (sym is_n)

      pub answer_read : (q : ℕ) → Plain z → q ≡ capped (written z) → (k : Result Command Refusal) → Made (telegram.Answer a) q k → AnswerRead bs k
      answer_read q p is (Ok k) m = (a, m.0, answer_whole ∙ ap (answer_fields a) (plain_text z (closing_ticks k.closing) p (m.1 ∙ is) (omega (arith, k.closing.short))))
      answer_read q p is (Err e) m =
          inr (m.1, (record { telegram = a; quiet = z; plain = p; whole = answer_whole }, still_out (written z) (subst Unclosing is m.0)))

-- whole lines
module _ (line fs : List ℕ) where
  request_only : line ≡ codes "request " ++ fs → (Shape request_fields fs → ⊥) → (t : Telegram) (q : List ℕ) → Plain q → line ≡ telegram_text t q → ⊥
  request_only e never (telegram.Request r) q p w = never (record { telegram = r; quiet = q; plain = p; whole = append_cancel_left (codes "request ") fs (request_fields r q) (sym e ∙ w) })
  request_only e never (telegram.Answer a) q p w = let z : ◌≡◌ {A = ℕ} 114 97 = cc in omega arith

  pub request_line : line ≡ codes "request " ++ fs → (k : Result Command Refusal) → RequestRead fs k → LineRead line k
  request_line e (Ok k) m = e ∙ ap (λ l. codes "request " ++ l) m.2 ∙ ap (λ t. telegram_text t (decimal (closing_ticks k.closing))) (sym m.1)
  request_line e (Err d) (inl m) = inl (m.0, λ s. request_only e m.1 s.telegram s.quiet s.plain s.whole)
  request_line e (Err d) (inr m) =
      let s = m.1.0 in
      inr (m.0, (record { telegram = telegram.Request s.telegram; quiet = s.quiet; plain = s.plain; whole = e ∙ ap (λ l. codes "request " ++ l) s.whole }, m.1.1))

  answer_only : line ≡ codes "answer " ++ fs → (Shape answer_fields fs → ⊥) → (t : Telegram) (q : List ℕ) → Plain q → line ≡ telegram_text t q → ⊥
  answer_only e never (telegram.Answer a) q p w = never (record { telegram = a; quiet = q; plain = p; whole = append_cancel_left (codes "answer ") fs (answer_fields a q) (sym e ∙ w) })
  answer_only e never (telegram.Request r) q p w = let z : ◌≡◌ {A = ℕ} 97 114 = cc in omega arith

  pub answer_line : line ≡ codes "answer " ++ fs → (k : Result Command Refusal) → AnswerRead fs k → LineRead line k
  answer_line e (Ok k) m = e ∙ ap (λ l. codes "answer " ++ l) m.2 ∙ ap (λ t. telegram_text t (decimal (closing_ticks k.closing))) (sym m.1)
  answer_line e (Err d) (inl m) = inl (m.0, λ s. answer_only e m.1 s.telegram s.quiet s.plain s.whole)
  answer_line e (Err d) (inr m) =
      let s = m.1.0 in
      inr (m.0, (record { telegram = telegram.Answer s.telegram; quiet = s.quiet; plain = s.plain; whole = e ∙ ap (λ l. codes "answer " ++ l) s.whole }, m.1.1))
