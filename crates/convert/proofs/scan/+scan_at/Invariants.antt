-- `scan::scan_at` meets its contract. Each return is one way through the reading, and its lemma stands in ScanWays. The measure is the room on the path.
-- Assumes nothing.
use Rattle.convert.proofs.scan.+scan_at.Given as goal

abbrev pub decreases-scan_at : goal.decreases-scan_at
decreases-scan_at l = l.c.room
