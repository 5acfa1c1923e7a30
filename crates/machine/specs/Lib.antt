-- What a program of a change means: read Settings, Instruction, Form and Run in this order. Examples has document 01's worked programs.
pub mod Settings
pub mod Instruction
pub mod Form
pub mod Run
pub mod Examples
