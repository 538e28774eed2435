-- What is told of a claim as the code has it: a trace, its replies, found lines, and how lines are dealt out.
use Rattle.std.specs.Prelude.{◌≤◌, ◌<◌, ◌+◌, ◌^◌, ℕ, List, Option, IfSome, MatchOption, length}
use Rattle.run_check.specs.Index.{Finds}
use Rattle.run_check.specs.Passing.{AllDone, IsBlocked, IsSound, IsUndone, MayPass, left}
use Rattle.run_check.specs.Sentences.{AllReached, IsFullNamed, IsLeast, IsLone, IsStuck, IsVerdict}
use Rattle.run_check.specs.declared.claim.Claim.{Claim}
use Rattle.run_check.specs.declared.verdict.Verdict.{Verdict}

-- for each line the one with its vector that is answered new is found
abbrev pub IsClaimReady : Claim → Type 0
IsClaimReady c = Finds c.trace.now c.replies.now c.found.now

abbrev pub HasWorkers : Claim → Type 0
HasWorkers c = (0 < c.workers) × (c.workers ≤ 64)

abbrev pub HasBlock : Claim → Type 0
HasBlock c = (0 < c.block) × (c.block ≤ 65536)

abbrev pub HasLine : Claim → ℕ → Type 0
HasLine c i = i < length c.trace.now

-- the line after it has a number too
abbrev pub HasNext : Option ℕ → Type 0
HasNext o = IfSome o (λ i. i + 1 < 2 ^ 64)

-- the least number of which something holds, if there is one
abbrev pub IsFirst : Option ℕ → (ℕ → Type 0) → Type 0
IsFirst o P = MatchOption o ((n : ℕ) → P n → ⊥) (IsLeast P)

abbrev pub LoneIn : Claim → ℕ → Type 0
LoneIn c = IsLone c.trace.now c.replies.now

abbrev pub FullNamedIn : Claim → ℕ → Type 0
FullNamedIn c = IsFullNamed c.trace.now c.replies.now

abbrev pub PassesIn : Claim → List ℕ → ℕ → Type 0
PassesIn c next j = MayPass c.trace.now c.replies.now c.workers c.block next j

abbrev pub BlockedIn : Claim → List ℕ → ℕ → Type 0
BlockedIn c next j = IsBlocked c.trace.now c.replies.now c.workers c.block next j

abbrev pub AllBlockedIn : Claim → List ℕ → Type 0
AllBlockedIn c next = (j : ℕ) → j < c.workers → BlockedIn c next j

abbrev pub SoundIn : Claim → List ℕ → Type 0
SoundIn c next = IsSound c.trace.now c.replies.now c.workers c.block next

-- how many lines are left to all workers
abbrev pub left_in : Claim → List ℕ → ℕ
left_in c next = left (length c.trace.now) next

-- the first line that its worker hasn't done
abbrev pub IsFirstUndone : Claim → List ℕ → Option ℕ → Type 0
IsFirstUndone c next o =
    MatchOption o (AllDone (length c.trace.now) c.workers c.block next)
    (IsLeast (IsUndone (length c.trace.now) c.workers c.block next))

-- the first line that isn't reached
abbrev pub IsFirstStuck : Claim → Option ℕ → Type 0
IsFirstStuck c o =
    MatchOption o (AllReached c.trace.now c.replies.now c.workers c.block)
    (IsLeast (IsStuck c.trace.now c.replies.now c.workers c.block))

abbrev pub VerdictIn : Claim → Verdict → Type 0
VerdictIn c = IsVerdict c.trace.now c.replies.now c.workers c.block
