-- How a summary is written: the number of events, the period and the count of accepted additions, each behind its name.
use Rattle.std.specs.Prelude.{ℕ, List, ◌++◌, codes, decimal}
use Rattle.board.specs.declared.summary.Summary.{Summary}

-- events, period and constraints
abbrev pub summary_text : Summary → List ℕ
summary_text s = codes "events " ++ (decimal s.events ++ (codes " period " ++ (decimal s.period ++ (codes " constraints " ++ decimal s.constraints))))
