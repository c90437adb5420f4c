-- The words in which the answers of serve, hear and tick are printed.
use Rattle.std.specs.Prelude.{ℕ, Bool, true, false, List, codes}
use Rattle.master.specs.declared.heard.Heard as heard
use Rattle.node.specs.declared.served.Served as served

abbrev pub served_words : served.Served → List ℕ
served_words served.TheVariants.NothingWaited = codes "nothing waited"
served_words served.TheVariants.Committed = codes "committed"
served_words served.TheVariants.Aborted = codes "aborted"
served_words served.TheVariants.Answered = codes "answered"
served_words served.TheVariants.Dropped = codes "dropped"
served_words served.TheVariants.Kept = codes "kept"

abbrev pub heard_words : heard.Heard → List ℕ
heard_words heard.TheVariants.NothingWaited = codes "nothing waited"
heard_words heard.TheVariants.Dropped = codes "dropped"
heard_words heard.TheVariants.Over = codes "over"
heard_words heard.TheVariants.Sent = codes "sent"

abbrev pub tick_words : Bool → List ℕ
tick_words true = codes "ended"
tick_words false = codes "not ended"
