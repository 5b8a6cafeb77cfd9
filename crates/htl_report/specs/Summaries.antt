-- The text of a summary behind its word, as bytes: the totals, which segments are missing, and what leaks.
use Rattle.std.specs.Prelude.{◌++◌, ℕ, List, Option, codes, flat_map, length}
use Rattle.std.specs.Fmt.{decimal}
use Rattle.htl_event.specs.declared.summary.ObjectRow.{ObjectRow}
use Rattle.htl_event.specs.declared.summary.ProcessRow.{ProcessRow}
use Rattle.htl_question.specs.declared.answer.Totals.{Totals}
use Rattle.htl_taken.specs.declared.gap.Gap.{Gap}
use Rattle.htl_taken.specs.declared.gap.Gap.TheVariants.{Between, Absent}
use Rattle.htl_report.specs.Addresses.{line_feed}
use Rattle.htl_report.specs.Parts.{object_part, until_part}
use Rattle.htl_report.specs.Rows.{first_rows}

-- the totals: how much was traced, and up to which moment nothing is missing
unfoldable pub totals_part : Totals → List ℕ
totals_part t =
    codes " processors=" ++ (decimal t.processors ++ (codes " segments=" ++ (decimal t.segments
    ++ (codes " events=" ++ (decimal t.events ++ (codes " complete_to=" ++ decimal t.complete_to))))))

-- how many gaps, processes, objects, and objects with an unbalanced tag there are; of objects only these last have a line
unfoldable pub lines_part : ℕ → ℕ → ℕ → ℕ → List ℕ
lines_part gaps processes objects unbalanced =
    codes " gaps=" ++ (decimal gaps ++ (codes " processes=" ++ (decimal processes ++ (codes " objects=" ++ (decimal objects
    ++ (codes " unbalanced=" ++ decimal unbalanced))))))

abbrev pub summary_head : Option ℕ → Totals → ℕ → ℕ → ℕ → List ℕ
summary_head until t gaps processes unbalanced =
    totals_part t ++ (lines_part gaps processes t.objects unbalanced ++ (until_part until ++ line_feed))

-- the segments of a processor that are missing, from one number to another
unfoldable pub between_line : ℕ → ℕ → ℕ → List ℕ
between_line processor from to =
    codes "GAP processor=" ++ (decimal processor ++ (codes " from=" ++ (decimal from ++ (codes " to=" ++ (decimal to ++ line_feed)))))

-- a processor without a segment
unfoldable pub absent_line : ℕ → List ℕ
absent_line processor = codes "GAP processor=" ++ (decimal processor ++ (codes " from=0" ++ line_feed))

abbrev pub gap_line : Gap → List ℕ
gap_line (Between processor from to) = between_line processor from to
gap_line (Absent processor) = absent_line processor

-- a process and its outstanding handles
unfoldable pub handles_part : ProcessRow → List ℕ
handles_part row = codes "PROCESS process=" ++ (decimal row.process ++ (codes " outstanding=" ++ decimal row.outstanding))

-- how many events of each kind a process has
unfoldable pub events_part : ProcessRow → List ℕ
events_part row =
    codes " opens=" ++ (decimal row.opens ++ (codes " closes=" ++ (decimal row.closes ++ (codes " bad=" ++ decimal row.bad))))

-- the snapshot mark and the last exit of a process
unfoldable pub moments_part : ProcessRow → List ℕ
moments_part row = codes " mark=" ++ (decimal row.mark ++ (codes " exit=" ++ (decimal row.exit ++ line_feed)))

abbrev pub process_line : ProcessRow → List ℕ
process_line row = handles_part row ++ (events_part row ++ moments_part row)

-- an object's tags, those that aren't balanced, and the references and dereferences under all of them
unfoldable pub tags_part : ObjectRow → List ℕ
tags_part row =
    codes " tags=" ++ (decimal row.tags ++ (codes " unbalanced=" ++ (decimal row.unbalanced
    ++ (codes " refs=" ++ (decimal row.refs ++ (codes " derefs=" ++ (decimal row.derefs ++ line_feed)))))))

-- an object with an unbalanced tag
abbrev pub object_line : ObjectRow → List ℕ
object_line row = codes "OBJECT" ++ (object_part row.object ++ tags_part row)

-- what leaks at all: all gaps, and the first processes and the first objects
unfoldable pub summary_text : Option ℕ → Option ℕ → Totals → List Gap → List ProcessRow → List ObjectRow → List ℕ
summary_text until top t gaps processes objects =
    summary_head until t (length gaps) (length processes) (length objects)
    ++ (flat_map gap_line gaps
    ++ (flat_map process_line (first_rows top processes) ++ flat_map object_line (first_rows top objects)))
