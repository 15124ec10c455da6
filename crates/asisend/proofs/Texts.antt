-- A text fails by its first line that does.
use Rattle.std.proofs.Common.{◌≡◌, ℕ, ◌<◌, List, length, ap, ◌++◌, inl, inr, arith}
use Rattle.asisend.specs.declared.command.Command.{Command}
use Rattle.asisend.specs.declared.failure.Failure.{Failure}
use Rattle.asisend.specs.declared.failure.Failure.TheVariants.{Memory, TooLong, TooManyWords, BadLine}
use Rattle.asisend.specs.Cutting.{FirstLine}
use Rattle.asisend.specs.Scripts.{Begins, LineFailed, ScriptFailed, script_text}

pub unread : (t : List ℕ) (cs : List Command) (r : List ℕ) → Begins t cs r → 0 < length r → t ≡ script_text cs ++ r
unread t cs r (inl e) some = e
unread t cs r (inr e) some = absurd (omega (arith, ap length e.1))

pub not_read : (t : List ℕ) (cs : List Command) (r l r' : List ℕ) (e : Failure) → Begins t cs r → 0 < length r → FirstLine r l r' → LineFailed cs l e → ScriptFailed t e
not_read t cs r l r' Memory b some f h = tt
not_read t cs r l r' TooLong b some f h = h
not_read t cs r l r' TooManyWords b some f h = h
not_read t cs r l r' (BadLine n e) b some f h =
    record { good = cs; rest = r; line = l; after = r'; begins = unread t cs r b some; some = some; first = f; place = h.0; why = h.1 }
