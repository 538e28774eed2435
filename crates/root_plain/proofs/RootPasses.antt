-- Passes that looked at a root bucket or put a pair there.
use Rattle.std.proofs.Common.{◌≡◌, ℕ, suc, ◌+◌, ◌-◌, ◌^◌, ◌<◌, ◌≤◌, List, [], ◌∷◌, length, Bool, true, false, refl, sym, ap, ◌∙◌, subst, ⊎_elim, eqb, arith}
use Rattle.std.proofs.Math.Pow.{pow_mono}
use mathlib.Core.Option.{none}
use prog.Atomic.{either}
use Rattle.atomic_table.specs.Table.{step, Allows}
use Rattle.atomic_table.specs.declared.shared.Seat.{Seat}
use Rattle.tree_shape.specs.Tree.{RootStands}
use Rattle.tdb_base.specs.History.{Vector, Act, History, is_fresh}
use Rattle.pair_rule.specs.declared.view.View.{View}
use Rattle.pair_rule.specs.declared.sizes.Sizes.{Sizes}
use Rattle.pair_rule.specs.declared.sizes.About.{About}
use Rattle.pair_rule.specs.declared.pass.PassOf.{PassOf}
use Rattle.pair_rule.specs.Paths.{node_buckets, root_buckets, size, bucket, reach, IsPair, Passed, Listed}
use Rattle.pair_rule.specs.Plays.{first_root}
use Rattle.pair_rule.specs.Rest.{SeatRests, AtRest, names_of_callers, view}
use Rattle.pair_rule.specs.Rule.{StoreRule}
use Rattle.pair_rule.proofs.Catches.{names_by_seen, names_by_fresh, rests_caught}
use Rattle.root_plain.proofs.Acted.{names_by_other}
use Rattle.root_plain.specs.declared.root.Roots.{Roots}
use Rattle.root_plain.specs.Plain.{IsPlain, IsRoot, Plain}
use Rattle.pair_rule.specs.Part.{Store}
use Rattle.pair_nodes.specs.Roots.{deed}
use Rattle.pair_rule.specs.Calls.{call, Called}
use Rattle.pair_rule.specs.Plays.{Caught}
use Rattle.root_plain.specs.Plain.{plain}
use Rattle.root_plain.specs.Plays.{Shows, Leaves, sought, claimed}
use Rattle.pair_rule.proofs.Rests.{few_names_given}
use Rattle.root_plain.specs.Laws.{plain_ids_below}
use Rattle.root_plain.proofs.RootSteps.{root_room}
use Rattle.root_plain.proofs.RootPlays.{seeks, claims}

abbrev V : Type 0
V = View Roots

pub seat_caught : {S : Type 0} (store : Store) (p q : Seat S V) (more : History) → SeatRests plain store p → q.table_id ≡ p.table_id → Leaves p.me q.me → Caught plain more p.me.0 q.me.0
    → SeatRests plain store q
seat_caught store p q more r same l k = record {
  table_is = same ∙ r.table_is;
  bare = l.slots_stay ∙ r.bare;
  live = ap (λ f. f.live) k.face_is ∙ r.live;
  idle = l.busy_stays ∙ r.idle;
  no_olds = l.no_olds;
  about_is = k.about ∙ r.about_is;
  is_about = r.is_about;
  sound = k.sound;
}

-- a pass that caught up and whose calls, if it made one, found their vector
pub record Quiet (numbers : List ℕ) (v w : V) : Type 0 where
  pub more : History
  pub caught : Caught plain more v w
  pub no_names : names_of_callers numbers more ≡ 0

pub shows_quiet : (wanted : ℕ → Bool) (id n : ℕ) (v w : V) → Shows wanted id n v w → Quiet v.numbers v w
shows_quiet wanted id n v w s = ⊎_elim
    (λ (z : n ≡ 0). record { more = []; caught = (s.empty z).0; no_names = refl })
    (λ (t : (pair : ℕ) × IsRoot v.about n pair). by t.0 t.1 (wanted t.0) refl)
    s.word
  where
    by : (pair : ℕ) → IsRoot v.about n pair → (b : Bool) → wanted pair ≡ b → Quiet v.numbers v w
    by pair root true t = let c = s.found pair root t in record { more = call v.number false c.vector id ∷ []; caught = c.caught; no_names = names_by_seen v.numbers (call v.number false c.vector id) refl }
    by pair root false t = record { more = []; caught = s.other pair root t; no_names = refl }

pub looked_rests : (store : Store) (p q : PassOf Roots) (wanted : ℕ → Bool) (id n : ℕ) → AtRest plain store p → q.seat.table_id ≡ p.seat.table_id → Leaves p.seat.me q.seat.me → Shows wanted id n (view p) (view q)
    → q.last_tree ≡ p.last_tree → q.next_tree ≡ p.next_tree → q.marks ≡ p.marks → q.has_last ≡ p.has_last → q.nodes_count ≡ p.nodes_count → q.names_count ≡ p.names_count → AtRest plain store q
looked_rests store p q wanted id n r same l s last next marks tree nodes names =
    let k = shows_quiet wanted id n (view p) (view q) s in
    rests_caught plain store p q k.more r (seat_caught store p.seat q.seat k.more r.seat same l k.caught) k.caught last next marks tree nodes (let none = k.no_names in omega (arith, names, none))

pub called_rests : (store : Store) (p q : PassOf Roots) (id pair : ℕ) → AtRest plain store p → q.seat.table_id ≡ p.seat.table_id → Leaves p.seat.me q.seat.me → Called plain true id pair (view p) (view q)
    → q.last_tree ≡ p.last_tree → q.next_tree ≡ p.next_tree → q.marks ≡ p.marks → q.has_last ≡ p.has_last → q.nodes_count ≡ p.nodes_count → q.names_count ≡ p.names_count + 1 → AtRest plain store q
called_rests store p q id pair r same l c last next marks tree nodes names =
    let made = call (view p).number true c.vector id in
    let one : names_of_callers (view p).numbers (made ∷ []) ≡ 1 = names_by_fresh (view p).numbers made refl r.seat.sound.mine in
    rests_caught plain store p q (made ∷ []) r (seat_caught store p.seat q.seat (made ∷ []) r.seat same l c.caught) c.caught last next marks tree nodes (omega (arith, names, one))

-- what a pass tells of the table
pub plain_about : (store : Store) (p : PassOf Roots) → AtRest plain store p → IsPlain store.about
plain_about store p r = r.seat.is_about

pub bucket_small : (about : About) (at : ℕ) → IsPlain about → at < size (root_buckets about) → at < 16777216
unfolding size
bucket_small about at is inside = let most : 2 ^ about.sizes.roots ≤ 2 ^ 24 = pow_mono is.range.roots.1 in omega (arith, inside, most)

pub word_of_bucket : (about : About) (sizes : Sizes) (at word : ℕ) → sizes ≡ about.sizes → word ≡ (1 + 2 ^ sizes.nodes) + at → first_root about + at ≡ word
unfolding size
word_of_bucket about sizes at word same is = let e : word ≡ (1 + 2 ^ about.sizes.nodes) + at = is ∙ ap (λ (z : Sizes). (1 + 2 ^ z.nodes) + at) same in omega (arith, e)

pub word_inside : (about : About) (at word words : ℕ) → IsPlain about → first_root about + at ≡ word → at < size (root_buckets about) → words ≡ suc (size (node_buckets about)) + about.root_words → word < words
word_inside about at word words is here inside wide = let room = root_room about is in omega (arith, here, inside, wide, room)

pub bucket_of_word : (v : V) (about : About) (at word : ℕ) → v.about ≡ about → first_root about + at ≡ word → word - first_root v.about ≡ at
bucket_of_word v about at word is here = subst (λ (y : About). word - first_root y ≡ at) (sym is) (omega (arith, here))

-- a load of the pass, and an exchange, under the table's key
pub look_allowed : (store : Store) (key : About) (p : PassOf Roots) (wanted : ℕ → Bool) (slots at word : ℕ) → AtRest plain store p → key ≡ store.about → first_root store.about + at ≡ word → at < size (root_buckets store.about)
    → Allows (StoreRule key (plain.roots key) (Plain key)) slots p.seat.id p.seat.me word (λ n. n) (sought wanted (step slots word 0 0 none) p.seat.me)
look_allowed store key p wanted slots at word r same here inside =
    subst (λ (k : About). Allows (StoreRule k (plain.roots k) (Plain k)) slots p.seat.id p.seat.me word (λ n. n) (sought wanted (step slots word 0 0 none) p.seat.me)) (sym same)
    (seeks _ store.about slots p.seat.id p.seat.me wanted at word r.seat.live r.seat.about_is here inside)

pub claim_allowed : (store : Store) (key : About) (p : PassOf Roots) (slots at word pair i new : ℕ) (vector : Vector) → AtRest plain store p → key ≡ store.about → first_root store.about + at ≡ word → at < size (root_buckets store.about)
    → new ≡ 9223372036854775808 + pair → IsPair (root_buckets store.about) pair → i < reach (root_buckets store.about) → bucket (root_buckets store.about) pair i ≡ at → Passed (root_buckets store.about) (Listed (view p).root.roots) pair i
    → RootStands store.about.width store.about.slots (view p).known pair vector → length vector ≡ store.about.slots
    → Allows (StoreRule key (plain.roots key) (Plain key)) slots p.seat.id p.seat.me word (λ n. either (eqb n 0) new n) (claimed (step slots word 0 new none) p.seat.me)
claim_allowed store key p slots at word pair i new vector r same here inside packed small near lies passed stands long =
    subst (λ (k : About). Allows (StoreRule k (plain.roots k) (Plain k)) slots p.seat.id p.seat.me word (λ n. either (eqb n 0) new n) (claimed (step slots word 0 new none) p.seat.me)) (sym same)
    (claims _ store.about slots p.seat.id p.seat.me at word pair i new vector r.seat.live r.seat.about_is here inside packed small near lies passed stands long)

pub few_names : (store : Store) (p : PassOf Roots) → AtRest plain store p → p.names_count ≤ 4611686018427387904
few_names store p r = few_names_given plain store plain_ids_below p r

-- a pass that made a call on a named vector which gives no name
pub acted_rests : (store : Store) (p q : PassOf Roots) (act : Act) (id : ℕ) (u : Vector) → AtRest plain store p → q.seat.table_id ≡ p.seat.table_id → Leaves p.seat.me q.seat.me → is_fresh act ≡ false
    → Caught plain (deed (view p).number act u id ∷ []) (view p) (view q)
    → q.last_tree ≡ p.last_tree → q.next_tree ≡ p.next_tree → q.marks ≡ p.marks → q.has_last ≡ p.has_last → q.nodes_count ≡ p.nodes_count → q.names_count ≡ p.names_count → AtRest plain store q
acted_rests store p q act id u r same l old k last next marks tree nodes names =
    let made = deed (view p).number act u id in
    rests_caught plain store p q (made ∷ []) r (seat_caught store p.seat q.seat (made ∷ []) r.seat same l k) k last next marks tree nodes (let none = names_by_other (view p).numbers made old in omega (arith, names, none))
