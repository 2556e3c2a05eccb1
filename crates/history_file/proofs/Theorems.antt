-- The statements on history files, proved.
use Rattle.history_file.specs.Statements.{ReadsBack, OnlyFile as OnlyOne, TuplesInside, OldFiles, OldHistories, OldNetworks}
use Rattle.history_file.proofs.OfStates.{export_reads_back}
use Rattle.history_file.proofs.OnlyFile.{only_file}
use Rattle.history_file.proofs.Inside.{tuples_inside}
use Rattle.history_file.proofs.Before.{part_same, old_number, old_history, old_file, old_network}

pub files_read_back : ReadsBack
unfolding ReadsBack
files_read_back = export_reads_back

pub files_unique : OnlyOne
unfolding OnlyOne
files_unique = only_file

pub tuples_of_the_group : TuplesInside
unfolding TuplesInside
tuples_of_the_group = tuples_inside

pub old_files : OldFiles
unfolding OldFiles
old_files b e = (old_number b e, old_history b e, λ accepted. part_same b e)

pub old_histories : OldHistories
unfolding OldHistories
old_histories = old_file

pub old_networks : OldNetworks
unfolding OldNetworks
old_networks = old_network
