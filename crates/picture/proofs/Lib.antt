pub mod Laws
pub mod WhatReads
