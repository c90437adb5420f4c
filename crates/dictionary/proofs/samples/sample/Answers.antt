use Rattle.std.proofs.Common.{◌≡◌, List, ap, ◌∙◌}
use Rattle.wire.specs.declared.multiplexor.Multiplexor.{Multiplexor}
use Rattle.dictionary.specs.declared.attributes.Attributes.{Attributes}
use Rattle.dictionary.specs.Additions.{added}
use Rattle.dictionary.specs.Entries.{Entry}
use Rattle.dictionary.specs.Questions.{attributes_of}
use Rattle.dictionary.specs.Samples.{device_type, device_name, two_bytes, many_bytes}
use Rattle.dictionary.proofs.samples.sample.Goals as goal

-- the entries after one more was handed over
after : (e : Entry) {m : Multiplexor} {a : Attributes} {d d' f : List Entry} → m ≡ e.at → a ≡ attributes_of e → d ≡ d' → f ≡ added d m a e.value → f ≡ added d' e.at (attributes_of e) e.value
after e {m} {a} {d} {d'} {f} p q r s =
    s
    ∙ ap (λ (x : Multiplexor). added d x a e.value) p
    ∙ ap (λ (x : Attributes). added d e.at x e.value) q
    ∙ ap (λ (x : List Entry). added x e.at (attributes_of e) e.value) r

pub returns : goal.returns
returns c =
    after many_bytes c.at-4.ensures c.within-4.ensures
    (after two_bytes c.at-3.ensures c.within-3.ensures
    (after device_name c.at-2.ensures c.within-2.ensures
    (after device_type c.at.ensures c.within.ensures c.new-table.ensures
    c.add.ensures.after)
    c.add-2.ensures.after)
    c.add-3.ensures.after)
    c.add-4.ensures.after
