-- An identifier that was looked for, and what was then done with its flags.
use Rattle.std.proofs.Common.{ℕ, [], false, true}
use Rattle.tdb_base.proofs.NameLemmas.{entry-named}
use Rattle.pair_nodes.specs.Roots.{RootFound, RootUnknown}
use Rattle.pair_rule.specs.Calls.{call}
use Rattle.pair_rule.specs.Part.{Store}
use Rattle.pair_rule.specs.Rest.{view}
use Rattle.pair_rule.specs.declared.pass.PassOf.{PassOf}
use Rattle.root_plain.specs.Plain.{plain}
use Rattle.root_plain.specs.declared.root.Roots.{Roots}
use Rattle.treedb_c.specs.Flags.{IsSought}

module _ (store : Store) (id : ℕ) (old new : PassOf Roots) where
  pub found : (parts : ℕ × ℕ) → RootFound plain store id parts old new → IsSought id true old new
  found parts f =
      let c = f.called in
      record {
        answer = record {
          vector = c.vector;
          name = entry-named (view new).about.flags (view new).seen c.caught.log [] (call (view old).number false c.vector id) f.rest.seat.sound.legal c.caught.seen;
          call_is = c.caught;
        };
        buffers = f.buffers;
      }

  pub unknown : RootUnknown plain store id old new → IsSought id false old new
  unknown f = record { answer = record { no_name = f.no_name; no_call = f.no_call }; buffers = f.buffers }
