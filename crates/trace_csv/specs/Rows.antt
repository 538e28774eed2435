-- The records of a trace, as `csv` defines them.
use Rattle.std.specs.Prelude.{◌≡◌, ◌+◌, ℕ, true, List, [], length, Option, Some, unwrap_or, IsSome, ⊤}
use Rattle.std.specs.Borrow.{Bor}
use Rattle.csv.specs.Reading.{Ready, default_config, is_flexible, reader_config, reader_state, reader_trim}
use Rattle.csv.specs.Reading.{records, records_from, source_of, strip_bom}
use Rattle.csv.specs.declared.parser.State.{State}
use Rattle.csv.specs.declared.parser.State.TheVariants as st
use Rattle.csv.specs.declared.reader.Reader.{Reader}
use Rattle.csv.specs.declared.reader.Trim.TheVariants as trim

-- the records of a text with no header row
abbrev pub csv_rows : List ℕ → List (List (List ℕ))
csv_rows bytes = records default_config (strip_bom bytes)

-- a state between two records
abbrev pub IsBetween : State → Type 0
IsBetween st.StartRecord = ⊤
IsBetween st.AfterCr = ⊤
IsBetween st.StartField = ⊥
IsBetween st.InField = ⊥
IsBetween st.InQuoted = ⊥
IsBetween st.AfterQuote = ⊥
IsBetween st.InEscape = ⊥
IsBetween st.InComment = ⊥

-- the bytes that a reader over bytes in memory has left
abbrev pub bytes_left : Reader (Bor (List ℕ)) → Option (List ℕ)
bytes_left reader = source_of (λ s. Some s.now) reader

-- the reader stands between two records and reads on with the defaults
pub record IsReading (reader : Reader (Bor (List ℕ))) : Type 0 where
  pub flexible : is_flexible reader ≡ true
  pub trim : reader_trim reader ≡ trim.None
  pub ready : Ready reader
  pub config : reader_config reader ≡ default_config
  pub between : IsBetween (reader_state reader)
  pub known : IsSome (bytes_left reader)

-- the records from a state on
abbrev pub rows_from : State → List ℕ → List (List (List ℕ))
rows_from state bytes = records_from default_config (length bytes + 1) state bytes

-- the records that a reader has left
abbrev pub rows_left : Reader (Bor (List ℕ)) → List (List (List ℕ))
rows_left reader = rows_from (reader_state reader) (unwrap_or (bytes_left reader) [])
