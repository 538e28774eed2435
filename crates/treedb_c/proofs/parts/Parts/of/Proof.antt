-- `of` has a box taken apart, and its parts own what the box owned.
use Rattle.std.proofs.Common.{◌≡◌, List, [], ◌∷◌, ◌++◌, refl, sym, subst, ap, ◌∙◌}
use Rattle.std.proofs.raw_atomic.Walks.{proved_at}
use Rattle.core.proofs.alloc.Calls.{token, handle_tells, Goes-blank}
use Rattle.std_alloc.specs.Box.Ownership.{box_owns}
use Rattle.std_alloc.proofs.BoxSteps.Form.{Bx, D, τ, R, P, B, word, box_typed}
use Rattle.std_alloc.proofs.BoxSteps.Steps.{box_out, box_in}
use base.Fml.{ftrue, fsep, flft}
use base.Logic.{ent, id⊢, never, fst∗}
use contract.BorrowLft.{◌⊑◌}
use contract.Monad.{fact}
use contract.Running.{tables}
use denote.Exit.{no}
use denote.Param.{bounded}
use denote.RattleType.{RattleType}
use denote.RawPtr.{Ptr, RawPtr, block_ptr, null_ptr, ptr_val, in_a_block}
use denote.Signature.{plain}
use denote.Steps.{heard, nothing, only}
use denote.Struct.Tuple.{Tuple}
use denote.Triple.Call.{calls_at}
use denote.Triple.Spec.{triple_of}
use denote.Triple.Table.{framed}
use denote.Triple.Walked.{says, Stays, stay_dropped, walk_of, ends_at}
use mir.MapTy.{inst_fn}
use mir.Raw.{raw as bare}
use mir.Syntax.{a_type, dcons, dnil}
use mir.Val.{Val, vstruct, of_list}
use prog.Wp.{WpFn}
use types.ByLocal.{alloc_all, pass_all, free_all, look_at, get, get_in, sets, lands_as}
use types.Kit.{Item, ‵, raw, ◌⊛◌, some, later, ◌$◌, ◌∵◌, !, qed, by, move, drop, use1, join, split, split3, pick, rewrite, fsplit, fjoin, fpick, feq_l, suffices, await, done}
use types.Logic.{sem}
use types.Part.{whole, sub, agg}
use types.Run.{stop, fld, no_more, and_then, of_opd, returns, enter}
use Rattle.std_alloc.specs.contracts.boxed.Box.into_raw_with_allocator as opened
use Rattle.std_alloc.proofs.boxed.Box.into_raw_with_allocator.Met.{met as opened_met}
use Rattle.treedb_c.specs.contracts.parts.Parts as parts
use Rattle.treedb_c.specs.contracts.parts.Parts.of as f
use Rattle.treedb_c.proofs.parts.Parts.of.Statement.{statement}
use Rattle.treedb_c.proofs.parts.Parts.of.Code as code

pub of_spec : {M : Type 1} → statement M
of_spec 𝓤 𝓛 𝓜 𝓡 wired X Z LX LZ g d dd dx allocator md glue =
    let E : Bx = record { row = X; laws = LX; al = record { row = Z; laws = LZ; g = g; d = d; drops = dd } } in
    let T = f.ended X Z g d dd dx in
    let c = f.clauses X Z g d dd dx 𝓛 𝓜.mem 𝓡.returns in
    let Box = plain (λ _. B E) in
    let stayed : Stays T.signature.params T.kept = (stay_dropped Box no, tt) in
    let at = bounded (a_type ∷ a_type ∷ []) (X, (Z, tt)) (dcons d (dcons dd (dcons dx dnil))) in
    let fn = inst_fn at code.function in
    let W = walk_of 𝓛 T stayed c in
    let 𝓣 = tables 𝓤 𝓛.H 𝓜 𝓡 𝓡.env in
    let To : RattleType = parts.the_row (R E) (P E) g in
    let Opens = triple_of 𝓛 (opened.signature X Z g d dd dx) (opened.spec X Z g d dd dx 𝓛 𝓜.mem 𝓡.returns) in
    proved_at 𝓛 T stayed c 𝓜 𝓡 (Goes-blank 𝓛 2 Box no (λ κs x v. tt), tt)
    (f.Key.name at) fn (code.unfolded 𝓤 𝓛.H 𝓜 𝓡 wired (X, (Z, tt)) d dd dx) (λ z are.
    let κs = z.0.0 in let qs = z.0.1 in let box = z.0.3.0 in let a = box.alloc in
    let tokens : Item 𝓤 = ‵ (flft κs.0 qs.0) ⊛ ‵ (flft κs.1.0 qs.1.0) ⊛ ‵ ftrue in
    let alive : Item 𝓤 = raw (fact 𝓤 (κs.0 ⊑ X.lives)) ⊛ raw (fact 𝓤 (κs.1.0 ⊑ Z.lives)) ⊛ ‵ ftrue in
    qed 𝓛 ((tokens ⊛ ‵ (fsep ((B E).own_val box z.0.4.0) ftrue)) ∷ alive ∷ []) ∵ split ! $ move ! (1 ∷ []) $ fsplit ! $
    box_out E ! box z.0.4.0 (λ b o h ptr bits fits. box_in E ! box b o box.value ptr refl $
    let w = word E h b o in
    let y : Opens.Ghost = ((κs, qs, tt, (box, tt), (w ∷ [], tt)), tt) in
    let owned : List (Item 𝓤) = ‵ ((B E).own_val box (w ∷ [])) ∷ ‵ ftrue ∷ tokens ∷ alive ∷ [] in
    by ! (subst (λ (vs : List Val). ent 𝓤 (types.Kit.⋆ 𝓛 owned) (WpFn 𝓤 𝓛.H 𝓣.C 𝓣.Λ fn (vs ++ []) (W.post z))) (sym bits)
    (qed 𝓛 owned ∵ enter ! 𝓣.C 𝓣.Λ fn (w ∷ []) _ $ alloc_all ! (λ locals. pass_all ! refl (box_typed E h b o fits, tt) $
    sets ! (of_opd ! (get ! refl)) refl (box_typed E h b o fits) $
    fjoin ! $ move ! (1 ∷ 0 ∷ []) $ join ! $ join ! $ use1 𝓛 (raw (Opens.pre y)) (id⊢ 𝓤 _) $
    calls_at ! (framed 𝓤 𝓛.H 𝓜 𝓣) Opens
    (opened_met 𝓤 𝓛 𝓜 𝓡 (code.calls-std_alloc::boxed::Box::into_raw_with_allocator 𝓡.env wired) X Z LX LZ g d dd dx allocator md glue)
    y (and_then ! (get ! refl) (no_more !)) (λ u.
    -- [the pointer and the allocator; what the box owned]
    use1 𝓛 (later (some (λ (r : Ptr × Z.Denot). (tokens ⊛ ‵ ((Tuple (RawPtr ∷ P E ∷ [])).own_val r (u ∷ [])))
    ⊛ some (λ (_ : (Unit {0} × (Unit {0} × Unit {0})) × Unit {0}). ‵ (fsep (fsep ftrue (fsep ftrue ftrue)) ftrue)
    ⊛ (raw (fact 𝓤 (r.1 ≡ a)) ⊛ ‵ (box_owns (token E.al a) (R E) r.0 box.value)))))) (id⊢ 𝓤 _) $
    await ! tt $ pick ! (λ r. split ! $ move ! (1 ∷ []) $ pick ! (λ _. split3 ! $ drop ! $ heard ! (r.1 ≡ a) (λ same.
    in_a_block ! r.0 (λ p. box_owns (token E.al a) (R E) p box.value)
    (fst∗ 𝓤 (never 𝓤) (sem 𝓛 (token E.al a (bare (τ E)) null_ptr))) (λ b' o' here.
    move ! (1 ∷ []) $ split ! $ move ! (1 ∷ []) $ fpick ! (λ vss. fsplit ! $ feq_l ! (λ whole_is. fsplit ! $ feq_l ! (λ first_is.
    fsplit ! $ rewrite ! 0 (λ (s : Z.Denot). ‵ (Z.own_val s vss.1.0)) same refl $ handle_tells E.al ! a vss.1.0 (λ h' second_is fits'.
    let part : D E = record { ptr = block_ptr b' o'; alloc = a; value = box.value } in
    let made : To.Denot = record { ptr = part.ptr; alloc = a; value = box.value } in
    let typed = box_typed E h' b' o' fits' in
    lands_as ! (ap only (whole_is ∙ (λ j. vstruct (of_list ((first_is ∙ ap (λ (p : Ptr). ptr_val p ∷ []) here) j ++ (second_is j ++ []))) ∷ []))) refl typed $
    sets ! (of_opd ! (get_in ! (fld ! refl (stop !)) (sub ! 0 refl (whole !)))) refl (tt, tt) $
    sets ! (of_opd ! (get_in ! (fld ! refl (stop !)) (sub ! 1 refl (whole !)))) refl fits' $
    sets ! (of_opd ! (get ! refl)) refl fits' $
    sets ! (agg ! (and_then ! (get ! refl) (and_then ! (get ! refl) (no_more !)))) refl typed $
    returns ! (look_at ! 0 refl) $ free_all ! refl $
    move ! (3 ∷ []) $ fsplit ! $ box_in E ! part b' o' box.value refl refl $
    use1 𝓛 (‵ (To.own_val made (word E h' b' o' ∷ []))) (id⊢ 𝓤 _) $ move ! (1 ∷ []) $ drop ! $
    suffices ! _ (ends_at 𝓛 T stayed c z (word E h' b' o') made ((tt, (tt, tt)), tt) (tt, tt)) $ says ! refl $
    nothing ! $ nothing ! $ fjoin ! $ join ! $ move ! (1 ∷ 0 ∷ []) $ join ! $ done !))))))))))))))
