use Rattle.std.specs.Prelude.{◌≡◌, ◌-◌, Some, length, map, take}
use Rattle.tdb_base.specs.History.{name_of}
use Rattle.tdb_base.specs.Legal.{Extends}
use Rattle.pair_rule.specs.Rest.{view}
use Rattle.pair_rule.specs.Rest.{AtRest}
use Rattle.treedb.specs.ReadBack.{HasRoomFor, IsCounted, new_ids, vectors}
use Rattle.treedb.proofs.distinct.ReadBack.add_all.Given as goal

abbrev pub invariant-loop-reply : goal.invariant-loop-reply
invariant-loop-reply g l = record {
  rest : AtRest g.N.Part.RootPart.part l.store l.pass;
  later : Extends (view l.fn.pass).seen (view l.pass).seen;
  slots : l.self.slots ≡ l.fn.self.slots;
  room : HasRoomFor (length l.replies - l.reply-index) l.self;
  counted : IsCounted l.self;
  names : map (name_of (view l.fn.pass).seen) (vectors l.self) ≡ map Some (new_ids (take l.reply-index l.replies));
}
