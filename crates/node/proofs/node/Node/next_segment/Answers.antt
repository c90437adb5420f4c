use Rattle.std.proofs.Common.{◌+◌, ◌<◌, ◌≤◌, true, false, length, take, drop, sym, ap, ◌∙◌, arith, length-drop, drop-drop}
use Rattle.sdo.specs.Answers as answer
use Rattle.sdo.specs.FrameData.{value_in}
use Rattle.sdo.specs.Segments.{other}
use Rattle.node.specs.States.{Idle, Upload}
use Rattle.node.specs.Steps.{answered}
use Rattle.node.proofs.Turning.{turning, last_given, more_given}
use Rattle.node.proofs.node.Node.next_segment.Goals as goal

pub returns-then-left-le7 : goal.returns-then-left-le7
returns-then-left-le7 c =
    let t = c.args.delivery.toggle in
    let v = drop c.args.delivery.given c.args.self.now.buffer in
    let few : length v ≤ 7 = omega (arith, ap length c.rest-rest.ensures.value) in
    turning (ap (λ x. answered Idle (answer.UploadSegment t x true)) (c.front-bytes.ensures ∙ ap (take 7) c.rest-rest.ensures.value) ∙ last_given c.args.delivery.multiplexor t v few) c.send.ensures

pub overflow_add-next : goal.overflow_add-next
overflow_add-next c = let e = simp length-drop at (ap length c.rest-rest.ensures.value) in omega arith

pub returns : goal.returns
returns c =
    let m = c.args.delivery.multiplexor in
    let t = c.args.delivery.toggle in
    let k = c.args.delivery.given in
    let b = c.args.self.now.buffer in
    let v = drop k b in
    let w = value_in c.front-bytes.result in
    let many : 7 < length v = omega (arith, ap length c.rest-rest.ensures.value) in
    turning
    (ap (λ x. answered (Upload m x (drop (k + 7) b)) (answer.UploadSegment t w false)) c.other.ensures
    ∙ ap (λ x. answered (Upload m (other t) x) (answer.UploadSegment t w false)) (sym (drop-drop 7 k b))
    ∙ ap (λ x. answered (Upload m (other t) (drop 7 v)) (answer.UploadSegment t x false)) (c.front-bytes.ensures ∙ ap (take 7) c.rest-rest.ensures.value)
    ∙ more_given m t v many)
    c.send-2.ensures
