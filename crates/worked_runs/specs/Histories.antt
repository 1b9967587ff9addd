-- A legal history and one that is not. Histories are newest first.
use Rattle.std.specs.Prelude.{List, [], false, true, ◌∷◌, ◌≡◌}
use Rattle.cxl_message.specs.declared.events.Commit.{Commit}
use Rattle.coherence_model.specs.Driven.{driven_trace}
use Rattle.coherence_model.specs.FlatMemory.{is_legal}
use Rattle.coherence_model.specs.Traces.{history}
use Rattle.worked_runs.specs.ModifiedLineIsWanted.{modified_line_is_wanted_script}
use Rattle.worked_runs.specs.Vocabulary.{one_word, two_words, word}

-- the commits of 'Modified line is wanted': the second word is stored over the first
abbrev pub stored_over : List Commit
stored_over = record { stream = 1; index = 0; op = word 0 1 2; value = two_words 1 2 } ∷ record { stream = 0; index = 0; op = word 0 0 1; value = one_word 1 } ∷ []

-- the same commits, but the second has lost the first word
abbrev pub lost_word : List Commit
lost_word = record { stream = 1; index = 0; op = word 0 1 2; value = one_word 1 } ∷ record { stream = 0; index = 0; op = word 0 0 1; value = one_word 1 } ∷ []

-- the history of that trace is these commits
abbrev pub HistoryIsStoredOver : Type 0
HistoryIsStoredOver = history (driven_trace modified_line_is_wanted_script) ≡ stored_over

-- the commits of the trace are legal
abbrev pub StoredOverIsLegal : Type 0
StoredOverIsLegal = is_legal 4 [] stored_over ≡ true

-- a lost word is not legal
abbrev pub LostWordIsNotLegal : Type 0
LostWordIsNotLegal = is_legal 4 [] lost_word ≡ false
