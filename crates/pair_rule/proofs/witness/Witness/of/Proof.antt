-- A walk by hand: the struct that is made has no bytes, and its ghost field is the value that the `requires` tells of.
use Rattle.std.proofs.Common.{[], ◌∷◌, refl}
use Rattle.std.proofs.raw_atomic.Walks.{proved}
use contract.BorrowLft.{◌⊑◌}
use contract.Monad.{fact}
use denote.Builtin.{RefOf}
use denote.Exit.{yes}
use denote.Param.{param, bounded}
use denote.RattleType.{RattleType, owns}
use denote.Ref.{shr_vals, shr_Tells}
use denote.Shadow.{pure_i}
use denote.Signature.{plain, types_at}
use denote.Steps.{nothing, heard}
use denote.Triple.Entry.{alive}
use denote.Triple.Walked.{Stays, walk_of, says, stay_dropped, Goes-dropped, ends_at}
use mir.MapTy.{inst_fn}
use mir.Syntax.{a_type, named, dcons, dnil}
use mir.Val.{Val, vstruct, vcons, vnil}
use types.ByLocal.{alloc_all, pass_all, free_all, look_at, get, sets}
use types.Kit.{‵, raw, ◌⊛◌, ◌$◌, ◌∵◌, !, qed, done, drop, join, keep, move, split, suffices}
use types.Part.{agg}
use types.Run.{no_more, and_then, returns, enter}
use Rattle.pair_rule.specs.contracts.witness.Witness as w
use Rattle.pair_rule.specs.contracts.witness.Witness.of as f
use Rattle.pair_rule.proofs.witness.Witness.of.Statement.{statement}
use Rattle.pair_rule.proofs.witness.Witness.of.Code as code

pub of_spec : {M : Type 1} → statement M
of_spec 𝓤 𝓛 𝓜 𝓡 wired V X N _ _ _ g d _ =
    let T = f.ended V X N g d in
    let c = f.clauses V X N g d 𝓛 𝓜.mem 𝓡.returns in
    let Given = RefOf (0 ∷ []) tt (plain (λ _. param 1 X)) (λ _. tt) in
    let stayed : Stays T.signature.params T.kept = (stay_dropped Given yes, tt) in
    let at = bounded (a_type ∷ a_type ∷ a_type ∷ []) (V, (X, (N, tt))) (dcons d dnil) in
    let R : RattleType = w.the_row (param 0 V) in
    let token : Val = vstruct (vcons (vstruct vnil) vnil) in
    proved 𝓛 T stayed c 𝓜 𝓡 (Goes-dropped 𝓛 4 Given yes (λ κs x w. refl), tt)
    (f.Key.name at) (inst_fn at code.function) (code.unfolded 𝓤 𝓛.H 𝓜 𝓡 wired (V, (X, (N, tt))) d)
    (λ κs. (shr_vals, tt)) (λ κs. (shr_Tells (named 0) κs.0 (param 1 X), tt)) (λ κs qs bounds a _ are.
    let pointer = shr_vals a.0 in
    let y : (walk_of 𝓛 T stayed c).Ghost = ((κs, qs, bounds, a, (pointer, tt)), tt) in
    qed 𝓛 ((raw (alive 𝓛 T.signature κs qs) ⊛ ‵ (owns (types_at T.signature.params κs) a (pointer, tt)))
    ∷ (raw (fact 𝓤 (κs.1.0 ⊑ V.lives)) ⊛ raw (fact 𝓤 (κs.1.1.0 ⊑ X.lives)) ⊛ raw (fact 𝓤 (κs.1.1.1.0 ⊑ N.lives)) ⊛ raw (fact 𝓤 ((v : V.Denot) × g.relates a.0.now v))) ∷ []) ∵
    split ! $ move ! (2 ∷ []) $ split ! $ drop ! $ split ! $ drop ! $ split ! $ drop ! $ heard ! _ (λ known. keep ! (0 ∷ []) $
    -- [the tokens; the locals]
    enter ! _ _ _ _ _ $ alloc_all ! (λ l. pass_all ! refl ((tt, tt), tt) $
    sets ! (agg ! (no_more !)) refl (tt, tt) $ sets ! (agg ! (and_then ! (get ! refl) (no_more !))) refl (tt, (tt, tt)) $
    returns ! (look_at ! 0 refl) $ free_all ! refl $
    let made : R.Denot = record { marker = record {}; value = known.0 } in
    suffices ! _ (ends_at 𝓛 T stayed c y token made (tt, tt) (tt, tt)) $ says ! known.1 $
    -- what the result owns is that its bytes are the token's
    pure_i ! (R.own_val made (token ∷ [])) ((λ vss. (tt, ((λ uss. (tt, tt)), tt))), tt) (((vstruct vnil ∷ [], tt), (refl, ((tt, (refl, tt)), tt))), tt) $
    nothing ! $ nothing ! $ join ! $ move ! (2 ∷ 0 ∷ 1 ∷ []) $ done !)))
