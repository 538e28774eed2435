-- An entry that gives no name: it changes no name, and leaves its vector's flags as its act says.
use Rattle.std.proofs.Common.{◌≡◌, ℕ, List, [], ◌∷◌, ◌++◌, Option, false, refl, sym, ap, ◌∙◌}
use Rattle.tdb_base.specs.History.{Vector, Entry, History, is_fresh, name_of, flags_of, flags_after}
use Rattle.tdb_base.proofs.NameLemmas.{name-push, same-refl}
use Rattle.pair_rule.specs.declared.sizes.About.{About}
use Rattle.pair_rule.specs.Rest.{names_of_callers}
use Rattle.pair_rule.specs.Rule.{Named}
use Rattle.pair_rule.proofs.Names.{flags_push}

pub other_names : (h : History) (e : Entry) → is_fresh e.act ≡ false → (v : Vector) → name_of (h ++ e ∷ []) v ≡ name_of h v
other_names h e old v = name-push h e v ∙ rw old refl

pub acted_flags : (h : History) (e : Entry) (before after : Option ℕ) → flags_of h e.vector ≡ before → flags_after e.act before ≡ after → flags_of (h ++ e ∷ []) e.vector ≡ after
acted_flags h e before after was is = flags_push h e e.vector ∙ rw (same-refl e.vector) (ap (flags_after e.act) was ∙ is)

pub named_alike : (about : About) (known : List (ℕ × ℕ)) (h g : History) (roots : List (ℕ × ℕ)) → ((v : Vector) → name_of g v ≡ name_of h v) → Named about known h roots → Named about known g roots
named_alike about known h g roots same n = record {
  each = λ v id p. n.each v id (sym (same v) ∙ p);
  only = λ id pair has. let o = n.only id pair has in (o.0, same o.0 ∙ o.1, o.2, o.3);
}

pub names_by_other : (ns : List ℕ) (e : Entry) → is_fresh e.act ≡ false → names_of_callers ns (e ∷ []) ≡ 0
names_by_other ns e old = rw old refl
