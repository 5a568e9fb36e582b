-- `tourtext::refused` meets its contract: each line printed is the refusal's. Assumes nothing.
use Rattle.tourtext.specs.Translation.{refusal_line}
use Rattle.tourtext.proofs.refused.Goals as goal

pub returns-in-NoWidth : goal.returns-in-NoWidth
unfolding refusal_line
returns-in-NoWidth c = rw c.in-NoWidth.is (record { bytes_value = c.no_width.ensures.bytes_value; printed_after = c.no_width.ensures.printed_after })

pub returns-in-BadLine : goal.returns-in-BadLine
unfolding refusal_line
returns-in-BadLine c = rw c.in-BadLine.is (record { bytes_value = c.fault.ensures.bytes_value; printed_after = c.fault.ensures.printed_after })

pub returns-in-BadLabel : goal.returns-in-BadLabel
unfolding refusal_line
returns-in-BadLabel c = rw c.in-BadLabel.is (record { bytes_value = c.fault-in-BadLabel.ensures.bytes_value; printed_after = c.fault-in-BadLabel.ensures.printed_after })

pub returns-in-TooLong : goal.returns-in-TooLong
unfolding refusal_line
returns-in-TooLong c = rw c.in-TooLong.is (record { bytes_value = c.fault-in-TooLong.ensures.bytes_value; printed_after = c.fault-in-TooLong.ensures.printed_after })
