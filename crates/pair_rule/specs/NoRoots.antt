-- A table without roots: there are no root pairs, nothing is asked of how they lie, and nobody called.
use Rattle.std.specs.Prelude.{◌≡◌, [], ◌∷◌, ◌++◌, false}
use Rattle.std.proofs.Common.{refl, sym, ◌∙◌}
use Rattle.tdb_base.specs.History.{History}
use Rattle.tdb_base.specs.Legal.{Extends}
use Rattle.pair_rule.specs.Part.{Part}

abbrev pub no_roots : Part (Unit {0})
no_roots = record {
  sized = λ sizes. Unit {0};
  count = λ sizes. 0;
  is_out = λ sizes n. ⊥;
  roots = λ about h t. [];
  house = λ about map. Unit {0};
  is_full = λ about map pair. Unit {0};
  bytes = λ about n. 0;
  sound = λ about v. v.seen ≡ [];
  split = λ t. t;
  join = λ t u. t;
  after_look = λ about pair found t u. found ≡ false;
  after_call = λ t u. Unit {0};
}

nothing_before : (h more : History) → [] ≡ h ++ more → h ≡ []
nothing_before [] more e = refl
nothing_before (x ∷ h) more e = cc e

pub nothing_seen : (log h : History) → log ≡ [] → Extends h log → h ≡ []
nothing_seen log h none e = nothing_before h e.more (sym none ∙ e.whole)
