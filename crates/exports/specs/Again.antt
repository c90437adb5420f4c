-- FourFrames read as messages of one direction, and made again from what was read: so the bits and bytes that are ignored come
-- back as zeros.
use Rattle.std.specs.Prelude.{ℕ, List, replicate, Some, None, Option}
use Rattle.sdo.specs.Requests.{Request, request_bytes, request_in}
use Rattle.sdo.specs.Answers.{Answer, answer_bytes, answer_in}
use Rattle.exports.specs.declared.FourFrames.{FourFrames}

-- what stands for no frame: all bits set
abbrev pub no_frame : List ℕ
no_frame = replicate 8 0xff

abbrev pub some_request_bytes : Option Request → List ℕ
some_request_bytes None = no_frame
some_request_bytes (Some q) = request_bytes q

abbrev pub some_answer_bytes : Option Answer → List ℕ
some_answer_bytes None = no_frame
some_answer_bytes (Some a) = answer_bytes a

-- a frame read as a request, and made again
abbrev pub request_again : List ℕ → List ℕ
request_again b = some_request_bytes (request_in b)

-- a frame read as an answer, and made again
abbrev pub answer_again : List ℕ → List ℕ
answer_again b = some_answer_bytes (answer_in b)

-- something done with each of four frames
abbrev pub each : (List ℕ → List ℕ) → FourFrames → FourFrames
each f four = record { first = f four.first; second = f four.second; third = f four.third; fourth = f four.fourth }
