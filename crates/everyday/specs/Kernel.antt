-- The eleven statements of edition 1 in edition 2. Assumes nothing.
use Rattle.rules.specs.Statements.{Block, Stmt, nothing, pause, emit, present?◌then◌else◌, suspend◌on◌, ◌⨾◌, loop, ◌parallel◌, trap, exit, local}
use Rattle.everyday.specs.Statements.{Alone, Around, suspend_on, present_then_else, in_sequence, in_parallel, Everyday, alone, around, between}
use Rattle.everyday.specs.Instants.{Block₂}

unfoldable pub kernel : Stmt → Everyday
kernel nothing = alone Alone.nothing
kernel (pause n) = alone Alone.pause
kernel (emit s) = alone (Alone.emit s)
kernel (present? s then p else q) = between (present_then_else s) (kernel p) (kernel q)
kernel (suspend p on s) = around (suspend_on s) (kernel p)
kernel (p ⨾ q) = between in_sequence (kernel p) (kernel q)
kernel (loop p) = around Around.loop (kernel p)
kernel (p parallel q) = between in_parallel (kernel p) (kernel q)
kernel (trap p) = around Around.trap (kernel p)
kernel (exit d) = alone (Alone.exit d)
kernel (local s p) = around (Around.local s) (kernel p)

abbrev pub kernel_block : Block → Block₂
kernel_block b = record { inputs = b.inputs; outputs = b.outputs; body = kernel b.body }
