use Rattle.std.proofs.Common.{◌≡◌, ℕ, Bool, true, false, not, Some, None, Option, Decides, MatchOption, refl}
use Rattle.std.specs.Option.{is_some}
use Rattle.fitting.proofs.grade_line.GradeLine.may_join.Goals as goal

-- beside a fact that holds, whether nothing was found to speak against another
none_decides : (o : Option ℕ) (b : Bool) (A K : Type 0) (Q : ℕ → Type 0) → is_some o ≡ not b → A → MatchOption o K Q → ((n : ℕ) → Q n → K → ⊥) → Decides b (A × K)
none_decides None true A K Q e a k h = ((λ _. (a, k)), (λ _. refl))
none_decides None false A K Q e a k h = absurd (cc)
none_decides (Some n) true A K Q e a q h = absurd (cc)
none_decides (Some n) false A K Q e a q h = ((λ z. absurd (cc)), (λ p. absurd (h n q p.1)))

pub returns-then-is_apart : goal.returns-then-is_apart
returns-then-is_apart c =
    none_decides c.first_not_kept.result c.is_none.result _ _ _ c.is_none.ensures (c.if-is_apart.ensures.0 refl) c.first_not_kept.ensures (λ n q k. q.1 (k n))
