use Rattle.dictionary.proofs.Bounds.{value_bounded}
use Rattle.dictionary.proofs.Deciding.{read_decided, write_decided}
use Rattle.dictionary.proofs.Setting.{value_set, refused_kept, others_kept, order_kept, attributes_kept, lawful_kept}
use Rattle.dictionary.proofs.Starts.{start_decided}
use Rattle.dictionary.proofs.Succession.{next_found, next_none, one_entry}
use Rattle.dictionary.proofs.laws.dictionary_laws.Goals as goal

pub returns : goal.returns
returns c =
    record {
      value_set = value_set;
      refused_kept = refused_kept;
      others_kept = others_kept;
      order_kept = order_kept;
      attributes_kept = attributes_kept;
      lawful_kept = lawful_kept;
      next_found = next_found;
      next_none = next_none;
      one_entry = one_entry;
      value_bounded = value_bounded;
      read_decided = read_decided;
      write_decided = write_decided;
      start_decided = start_decided;
    }
