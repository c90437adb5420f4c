-- The two ends mean the same requests: a node sets a value only at one with which, for a master, the value is whole.
use Rattle.std.specs.Prelude.{◌≡◌, true, List, Some}
use Rattle.wire.specs.declared.frame.Frame.{Frame}
use Rattle.sdo.specs.Requests.{Request, request_in, completes}
use Rattle.dictionary.specs.Entries.{Entry}
use Rattle.node.specs.Laws.{IsFor}
use Rattle.node.specs.States.{State}
use Rattle.node.specs.Steps.{Setting, step}

-- a frame for the node with such a request
pub record IsWhole (s : State) (f : Frame) : Type 0 where
  pub own : IsFor f s
  pub request : Request
  pub read : request_in f.bytes ≡ Some request
  pub completes : completes request ≡ true

abbrev pub OnlyWholeValuesSet : Type 0
OnlyWholeValuesSet = (d : List Entry) (s : State) (f : Frame) (x : Setting) → (step d s (Some f)).set ≡ Some x → IsWhole s f
