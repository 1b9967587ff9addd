-- What `load N` writes. Every rule here is an own rule.
use Rattle.std.specs.Prelude.{List, Option, String, [], codes, decimal, ℕ, ◌++◌, ◌∷◌}
use Rattle.std.specs.Io.KnownBytes.{Appends}
use Rattle.std.specs.declared.alloc.Global.{Global}
use Rattle.coherence_model.specs.Driven.{driven_trace}
use Rattle.script_text.specs.Generator.{generated}
use Rattle.step_driver.specs.Summaries.{summary_of}
use Rattle.step_driver.specs.declared.summary.Summary.{Summary}
use Rattle.cxlmem.specs.CommandLine.{IsLoad}
use Rattle.cxlmem.specs.Outcomes.{WritesFront}

-- the line of a number: its name, a space and the number
abbrev pub count_line : List ℕ → ℕ → List ℕ
count_line name n = name ++ 32 ∷ [] ++ decimal n ++ 10 ∷ []

-- the nine lines of a summary
abbrev pub summary_text : Summary → List ℕ
summary_text s =
    count_line (codes "operations") s.operations ++ count_line (codes "events") s.events ++ count_line (codes "loads") s.loads ++ count_line (codes "words") s.words
    ++ count_line (codes "wholes") s.wholes ++ count_line (codes "snoops") s.snoops ++ count_line (codes "conflicts") s.conflicts
    ++ count_line (codes "host evictions") s.host_evictions ++ count_line (codes "filter evictions") s.filter_evictions

-- the summary of the driven trace of the script of so many operations that the seed 1 makes
abbrev pub load_text : ℕ → List ℕ
load_text n = summary_text (summary_of (driven_trace (generated n 1)))

-- the words ask for a load, and its lines went to the sink, and nothing else
pub record Loads (words : List (String Global)) (old new : Option (List ℕ)) : Type 0 where
  pub number : ℕ
  pub asked : IsLoad words number
  pub written : Appends old new (load_text number)

-- the words ask for a load, and the first bytes of its lines went to the sink, and nothing else
pub record LoadsFront (words : List (String Global)) (old new : Option (List ℕ)) : Type 0 where
  pub number : ℕ
  pub asked : IsLoad words number
  pub front : WritesFront old new (load_text number)
