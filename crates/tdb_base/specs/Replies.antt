-- What a reply says of its line.
use Rattle.std.specs.Prelude.{ℕ, Bool, true, false, Option, Some, None}
use Rattle.tdb_base.specs.declared.reply.Reply.{Reply}
use Rattle.tdb_base.specs.declared.reply.Reply.TheVariants as r

-- the line's vector got its name here
abbrev pub is_new : Reply → Bool
is_new (r.New id) = true
is_new (r.Seen id) = false
is_new r.FullNodes = false
is_new r.FullRoots = false

-- a table was full, so the line's vector got no name
abbrev pub is_full : Reply → Bool
is_full r.FullNodes = true
is_full r.FullRoots = true
is_full (r.New id) = false
is_full (r.Seen id) = false

-- the identifier that the reply gives the line's vector
abbrev pub id_of : Reply → Option ℕ
id_of (r.New id) = Some id
id_of (r.Seen id) = Some id
id_of r.FullNodes = None
id_of r.FullRoots = None
