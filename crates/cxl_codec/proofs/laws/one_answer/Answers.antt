use Rattle.cxl_codec.specs.declared.versions.Version.{Version}
use Rattle.cxl_codec.specs.Header.{HeaderFits, VersionedFits, header_cells, versioned_cells}
use Rattle.cxl_codec.specs.Openings.{opening_cells, OpeningFits}
use Rattle.cxl_codec.specs.Events.{event_cells, event_cells_in, EventFits, EventFitsIn}
use Rattle.cxl_codec.specs.EndRecord.{end_cells, EndFits}
use Rattle.cxl_codec.specs.ReadingEvents.{event_at}
use Rattle.cxl_codec.specs.NameRecord.{name_cells, NameFits}
use Rattle.cxl_codec.specs.ReadingFiles.{header_at, opening_at, end_at, name_at, versioned_at}
use Rattle.cxl_codec.proofs.OneAnswer.{one_answer}
use Rattle.cxl_codec.proofs.EventReads.{event_meets}
use Rattle.cxl_codec.proofs.NameReads.{name_meets}
use Rattle.cxl_codec.proofs.FileReads.{opening_meets, end_meets}
use Rattle.cxl_codec.proofs.HeaderReads.{header_meets, versioned_meets}
use Rattle.cxl_codec.proofs.laws.one_answer.Goals as goal

pub returns-clause-headers : goal.returns-clause-headers
returns-clause-headers c = one_answer HeaderFits header_cells header_at header_meets

pub returns-clause-headers_in : goal.returns-clause-headers_in
returns-clause-headers_in c = one_answer VersionedFits versioned_cells versioned_at versioned_meets

pub returns-clause-openings : goal.returns-clause-openings
returns-clause-openings c = one_answer OpeningFits opening_cells opening_at opening_meets

pub returns-clause-events : goal.returns-clause-events
returns-clause-events c = one_answer EventFits event_cells (event_at Version.One) (event_meets Version.One)

pub returns-clause-ends : goal.returns-clause-ends
returns-clause-ends c = one_answer EndFits end_cells end_at end_meets

pub returns-clause-names : goal.returns-clause-names
returns-clause-names c = one_answer NameFits name_cells name_at name_meets

pub returns-clause-events_in : goal.returns-clause-events_in
returns-clause-events_in c version = one_answer (EventFitsIn version) (event_cells_in version) (event_at version) (event_meets version)
