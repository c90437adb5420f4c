-- The frames of requests and answers: the identifier of their direction, and their eight bytes.
use Rattle.wire.specs.declared.node_number.NodeNumber.{NodeNumber}
use Rattle.wire.specs.declared.frame.Frame.{Frame}
use Rattle.wire.specs.Frames.{request_identifier, answer_identifier}
use Rattle.sdo.specs.Requests.{Request, request_bytes}
use Rattle.sdo.specs.BlockRequests.{BlockRequest, block_request_bytes}
use Rattle.sdo.specs.Answers.{Answer, answer_bytes}

abbrev pub request_frame : NodeNumber → Request → Frame
request_frame n q = record { identifier = request_identifier n; bytes = request_bytes q }

abbrev pub block_request_frame : NodeNumber → BlockRequest → Frame
block_request_frame n q = record { identifier = request_identifier n; bytes = block_request_bytes q }

abbrev pub answer_frame : NodeNumber → Answer → Frame
answer_frame n a = record { identifier = answer_identifier n; bytes = answer_bytes a }
