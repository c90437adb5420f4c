-- Cases to read the models of the calls by, byte for byte: what a new bench does where nothing is lost.
-- Its dictionary is the sample, its node has number 5 and takes sub-blocks of 127 segments.
use Rattle.std.specs.Prelude.{◌≡◌, ℕ, zero, suc, true, false, List, [], ◌∷◌, length, take, replicate, map, Ok, Err, IsErrAnd}
use Rattle.wire.specs.declared.abort_code.AbortCode.TheVariants.{ReadOnly, GeneralError}
use Rattle.wire.specs.declared.frame.Frame.{Frame}
use Rattle.wire.specs.declared.multiplexor.Multiplexor.{Multiplexor}
use Rattle.crc.specs.Registers.{crc}
use Rattle.dictionary.specs.Questions.{value_at}
use Rattle.dictionary.specs.Samples.{sample_entries}
use Rattle.master.specs.declared.method.Method.TheVariants.{Expedited, Block}
use Rattle.master.specs.Calls.{Order, Read, Write}
use Rattle.master.specs.Laws.{is_open}
use Rattle.master.specs.Refusals.{begin_number}
use Rattle.node.specs.declared.served.Served.TheVariants.{Committed}
use Rattle.register.specs.declared.layer.Layer.TheVariants as layer
use Rattle.report.specs.declared.refusal.SettleRefusal.TheVariants.{NotOut, ShortBuffer}
use Rattle.report.specs.declared.report.Outcome.TheVariants.{Written, Unwritten, Undecided}
use Rattle.bench.specs.Model.States.{State, fresh}
use Rattle.bench.specs.Numbers.{nearest_number, nearest_size}
use Rattle.bench.specs.Model.Calls.{begin_answer, begin_step, serve_answer, serve_step, hear_step, tick_answer, tick_step, settle_answer, settle_buffer, settle_step}

-- the bench

abbrev pub bench : State
bench = fresh sample_entries (nearest_number 5) (nearest_size 127)

-- its calls: a transfer begun on the new bench, a frame served, a frame heard, some ticks

abbrev pub at : ℕ → ℕ → Multiplexor
at index subindex = record { index = index; subindex = subindex }

abbrev pub begun : Multiplexor → Order → State
begun m o = begin_step m o [] bench

abbrev pub served : State → State
served s = serve_step false s

abbrev pub heard : State → State
heard s = hear_step [] s

abbrev pub ticked : ℕ → State → State
ticked zero s = s
ticked (suc n) s = ticked n (tick_step [] false s)

-- some bytes of 170, as a buffer
abbrev pub buffer : ℕ → List ℕ
buffer n = replicate n 0xaa

-- a frame as one sees it on a line: the number of its identifier, and its bytes
pub record Seen : Type 0 where
  pub identifier : ℕ
  pub bytes : List ℕ

abbrev pub seen : Frame → Seen
seen f = record { identifier = f.identifier.number; bytes = f.bytes }

-- an identifier and eight bytes
abbrev pub frame : ℕ → ℕ → ℕ → ℕ → ℕ → ℕ → ℕ → ℕ → ℕ → Seen
frame i b0 b1 b2 b3 b4 b5 b6 b7 = record { identifier = i; bytes = b0 ∷ b1 ∷ b2 ∷ b3 ∷ b4 ∷ b5 ∷ b6 ∷ b7 ∷ [] }

-- all frames that wait for an end, the first in first
abbrev pub for_node : State → List Seen
for_node s = map seen s.line.to_node

abbrev pub for_master : State → List Seen
for_master s = map seen s.line.to_master

-- the bench when a transfer was just begun

abbrev pub write_of_two_bytes : State
write_of_two_bytes = begun (at 0x2000 1) (Write Expedited (0xe8 ∷ 0x03 ∷ []))

abbrev pub read_of_device_type : State
read_of_device_type = begun (at 0x1000 0) Read

abbrev pub read_of_device_name : State
read_of_device_name = begun (at 0x1008 0) Read

abbrev pub write_of_device_type : ℕ → ℕ → ℕ → ℕ → State
write_of_device_type a b c d = begun (at 0x1000 0) (Write Expedited (a ∷ b ∷ c ∷ d ∷ []))

abbrev pub write_of_digits : State
write_of_digits = begun (at 0x2001 0) (Write Block (0x31 ∷ 0x32 ∷ 0x33 ∷ 0x34 ∷ 0x35 ∷ 0x36 ∷ 0x37 ∷ 0x38 ∷ 0x39 ∷ []))

pub record SampleCases : Type 0 where
  -- two bytes are written, with the start
  pub write_asked : for_node write_of_two_bytes ≡ frame 0x605 0x2b 0x00 0x20 0x01 0xe8 0x03 0x00 0x00 ∷ []
  pub write_commits : serve_answer write_of_two_bytes ≡ Committed
  pub write_answered : for_master (served write_of_two_bytes) ≡ frame 0x585 0x60 0x00 0x20 0x01 0x00 0x00 0x00 0x00 ∷ []
  pub write_stored : value_at (served write_of_two_bytes).dictionary (at 0x2000 1) ≡ 0xe8 ∷ 0x03 ∷ []
  -- four bytes are read, which come with the answer
  pub device_type_given : for_master (served read_of_device_type) ≡ frame 0x585 0x43 0x00 0x10 0x00 0x92 0x01 0x02 0x00 ∷ []
  -- six bytes are read: their number is told, then they come in a segment
  pub device_name_announced : for_master (served read_of_device_name) ≡ frame 0x585 0x41 0x08 0x10 0x00 0x06 0x00 0x00 0x00 ∷ []
  pub device_name_given : for_master (served (heard (served read_of_device_name))) ≡ frame 0x585 0x03 0x6c 0x6f 0x61 0x64 0x65 0x72 0x00 ∷ []
  -- what is read-only is not written, whatever the four bytes are
  pub read_only_refused : (a b c d : ℕ) → for_master (served (write_of_device_type a b c d)) ≡ frame 0x585 0x80 0x00 0x10 0x00 0x02 0x00 0x01 0x06 ∷ []
  -- nine bytes are written by block: two segments, then the end with the number of unused bytes and the CRC
  pub segments_sent :
      for_node (heard (served write_of_digits))
      ≡ frame 0x605 0x01 0x31 0x32 0x33 0x34 0x35 0x36 0x37
      ∷ frame 0x605 0x82 0x38 0x39 0x00 0x00 0x00 0x00 0x00
      ∷ []
  pub end_sent : for_node (heard (served (served (heard (served write_of_digits))))) ≡ frame 0x605 0xd5 0xc3 0x31 0x00 0x00 0x00 0x00 0x00 ∷ []
  pub digits_stored : value_at (served (heard (served (served (heard (served write_of_digits)))))).dictionary (at 0x2001 0) ≡ 0x31 ∷ 0x32 ∷ 0x33 ∷ 0x34 ∷ 0x35 ∷ 0x36 ∷ 0x37 ∷ 0x38 ∷ 0x39 ∷ []
  -- the CRC of a value without bytes
  pub crc_of_no_bytes : crc [] ≡ 0
  -- a transfer of which nothing is served or heard stays open in the ninth tick, and the tenth ends it
  pub ninth_tick : (tick_answer (ticked 8 write_of_two_bytes)).ended ≡ false
  pub after_ninth_tick : is_open (ticked 9 write_of_two_bytes).master.phase ≡ true
  pub tenth_tick : (tick_answer (ticked 9 write_of_two_bytes)).ended ≡ true
  -- a node that is busy says nothing for 24 ticks, and aborts in the 25th
  pub node_waits : for_master (ticked 24 (heard (served read_of_device_name))) ≡ []
  pub node_aborts : for_master (ticked 25 (heard (served read_of_device_name))) ≡ frame 0x585 0x80 0x08 0x10 0x00 0x00 0x00 0x04 0x05 ∷ []
  -- settled: a write that was answered, and one that was refused; the number is asked before the buffer, which has to have 1,024 bytes
  pub write_told : settle_answer 1 (buffer 1024) (heard (served write_of_two_bytes)) ≡ Ok (record { outcome = Written })
  pub refusal_told : settle_answer 1 (buffer 1024) (heard (served (write_of_device_type 0 0 0 0))) ≡ Ok (record { outcome = Unwritten (record { multiplexor = at 0x1000 0; code = ReadOnly; segment = 0; layer = layer.Dictionary }) })
  pub too_short : settle_answer 1 (buffer 1023) (heard (served write_of_two_bytes)) ≡ Err ShortBuffer
  pub too_short_for_none : settle_answer 2 (buffer 1023) (heard (served write_of_two_bytes)) ≡ Err NotOut
  -- the six bytes of a read lie at the buffer's front
  pub device_name_read : take 8 (settle_buffer 1 (buffer 1024) (heard (served (heard (served read_of_device_name))))) ≡ 0x6c ∷ 0x6f ∷ 0x61 ∷ 0x64 ∷ 0x65 ∷ 0x72 ∷ 0xaa ∷ 0xaa ∷ []
  -- a write that is settled while it is open is given up, and may have been set
  pub doubt_told : settle_answer 1 (buffer 1024) write_of_two_bytes ≡ Ok (record { outcome = Undecided (record { multiplexor = at 0x2000 1; code = GeneralError; segment = 0; layer = layer.Master }) })
  pub given_up : for_node (settle_step 1 (buffer 1024) [] write_of_two_bytes) ≡ frame 0x605 0x80 0x00 0x20 0x01 0x00 0x00 0x00 0x08 ∷ []
  -- a block write of any 1,024 bytes is begun, with the ticket of number 1; one of 1,025 bytes is refused, with number 4
  pub longest_begins : (v : List ℕ) → length v ≡ 1024 → begin_answer (at 0x2001 0) (Write Block v) bench ≡ Ok 1
  pub longer_refused : (v : List ℕ) → length v ≡ 1025 → IsErrAnd (begin_answer (at 0x2001 0) (Write Block v) bench) (λ e. begin_number e ≡ 4)
